-- A text put behind another is the two put as one. Assumes nothing.
use Rattle.std.proofs.Common.{◌≡◌, ◌∙◌, List, ◌++◌, ℕ, ◌+◌, ◌≤◌, length, take, drop, arith, rules, length-append}
use Rattle.std.proofs.lemmas.List.{same_lists, places}
use Rattle.text.specs.declared.Page.{Page}
use Rattle.text.specs.Inside.{Put, Room}

-- what stands in a page after a text was put behind another
front : (first second : List ℕ) (before : List ℕ) (at : ℕ) → at + length first + length second ≤ length before →
    take (at + length first) (take at before ++ (first ++ drop (at + length first) before))
    ++ (second ++ drop (at + length first + length second) (take at before ++ (first ++ drop (at + length first) before)))
    ≡ take at before ++ ((first ++ second) ++ drop (at + length (first ++ second)) before)
front first second before at room = same_lists _ _ (search (rules, places)) (λ k d h. grind (arith, places))

pub both : {first second : List ℕ} {a b c : Page} → Put first a b → Put second b c → a.at + length first + length second ≤ length a.bytes.now → Put (first ++ second) a c
both {first} {second} {a} {b} {c} p q room =
    record {
      bytes = rw (q.bytes, p.behind, p.bytes) (front first second a.bytes.now a.at room);
      behind = omega (arith, p.behind, q.behind, length-append first second);
      kept = q.kept ∙ p.kept;
      same_page = q.same_page ∙ p.same_page;
    }

-- a text, and the rest of the line behind it
pub behind : {first rest : List ℕ} {a b c : Page} → Put first a b → (Room (length rest) b → Put rest b c) → Room (length (first ++ rest)) a → Put (first ++ rest) a c
behind {first} {rest} p q room =
    let parts = length-append first rest in
    both p (q (omega (arith, p.behind, p.kept))) (omega arith)
