-- Dates put in order: which ones the list has, that it is strictly rising, and that there is only one such list. Assumes nothing.
use mathlib.Core.Path.{◌≡◌, refl, sym, ◌∙◌, ap, subst}
use mathlib.Core.Bool.{or_self_left, Bool, true, false, cond, ◌||◌}
use mathlib.Core.List.{List, [], ◌∷◌}
use Prim.Native.Nat.{ℕ, ◌<◌}
use native.Mathlib.Omega.{arith}
use lib.Dec.{ltb, eqb}
use borrow.Author.Tests.{eq-eqb, ne_eqb, ltb-true, ltb-false, eqb-true, eqb-false}
use Rattle.lists.specs.Lists.{Before, Rising}
use Rattle.calendar_holidays.specs.Holidays.{listed}
use Rattle.calendar_public_holidays.specs.YearHolidays.{inserted, in_order}

-- two tests in the other order
swap : (a b c : Bool) → (a || (b || c)) ≡ (b || (a || c))
swap true true c = refl
swap true false c = refl
swap false true c = refl
swap false false c = refl

-- which dates a list has with one put in
insert-listed : (d date : ℕ) (dates : List ℕ) → listed d (inserted date dates) ≡ (eqb date d || listed d dates)
unfolding listed inserted
insert-listed d date [] = refl
insert-listed d date (next ∷ dates) = earlier (ltb date next) (insert-listed d date dates)
  where
    the_same : listed d (inserted date dates) ≡ (eqb date d || listed d dates) → (b : Bool) → eqb date next ≡ b →
        listed d (cond b (next ∷ dates) (next ∷ inserted date dates)) ≡ (eqb date d || listed d (next ∷ dates))
    the_same h true e =
        let same : date ≡ next = eqb-true date next e in
        rw same (sym (or_self_left (eqb next d) (listed d dates)))
    the_same h false e = rw h (swap (eqb next d) (eqb date d) (listed d dates))

    earlier : (b : Bool) → listed d (inserted date dates) ≡ (eqb date d || listed d dates) →
        listed d (cond b (date ∷ next ∷ dates) (cond (eqb date next) (next ∷ dates) (next ∷ inserted date dates)))
        ≡ (eqb date d || listed d (next ∷ dates))
    earlier true h = refl
    earlier false h = the_same h (eqb date next) refl

-- it stays in order
insert-before : (first date : ℕ) (dates : List ℕ) → first < date → Before first dates → Before first (inserted date dates)
unfolding inserted
insert-before first date [] h b = h
insert-before first date (next ∷ dates) h b = go (ltb date next) (eqb date next)
  where
    go : (p q : Bool) → Before first (cond p (date ∷ next ∷ dates) (cond q (next ∷ dates) (next ∷ inserted date dates)))
    go true q = h
    go false true = b
    go false false = b

insert-rising : (date : ℕ) (dates : List ℕ) → Rising dates → Rising (inserted date dates)
unfolding inserted
insert-rising date [] r = (tt, tt)
insert-rising date (next ∷ dates) r = earlier (insert-rising date dates r.1) (ltb date next) refl
  where
    the_same : Rising (inserted date dates) → ltb date next ≡ false → (b : Bool) → eqb date next ≡ b → Rising (cond b (next ∷ dates) (next ∷ inserted date dates))
    the_same t l true e = r
    the_same t l false e =
        let h : next < date = omega (arith, ltb-false date next l, eqb-false date next e) in
        (insert-before next date dates h r.0, t)

    earlier : Rising (inserted date dates) → (b : Bool) → ltb date next ≡ b →
        Rising (cond b (date ∷ next ∷ dates) (cond (eqb date next) (next ∷ dates) (next ∷ inserted date dates)))
    earlier t true e = (ltb-true date next e, r)
    earlier t false e = the_same t e (eqb date next) refl

-- The dates of a list in order.
pub order-listed : (d : ℕ) (dates : List ℕ) → listed d (in_order dates) ≡ listed d dates
unfolding listed in_order
order-listed d [] = refl
order-listed d (date ∷ dates) = insert-listed d date (in_order dates) ∙ rw (order-listed d dates)

pub order-rising : (dates : List ℕ) → Rising (in_order dates)
unfolding in_order
order-rising [] = tt
order-rising (date ∷ dates) = insert-rising date (in_order dates) (order-rising dates)

-- no date in front of a rising list's first one is in it
pub not_listed : (d : ℕ) (dates : List ℕ) → Before d dates → Rising dates → listed d dates ≡ false
unfolding listed
not_listed d [] b r = refl
not_listed d (first ∷ dates) b r =
    let later : Before d dates = before-all dates r.0 in
    rw (ne_eqb first d (λ e. omega (arith, b)), not_listed d dates later r.1)
  where
    before-all : (rest : List ℕ) → Before first rest → Before d rest
    before-all [] h = tt
    before-all (next ∷ rest) h = omega (arith, b, h)

-- its first one is
pub first-listed : (first : ℕ) (dates : List ℕ) → listed first (first ∷ dates) ≡ true
unfolding listed
first-listed first dates = rw (eq-eqb first first refl)

pub contradiction : {A : Type 0} (a b : Bool) → a ≡ b → a ≡ true → b ≡ false → A
contradiction a b h t f =
    let e : true ≡ false = sym t ∙ h ∙ f in
    let z : ◌≡◌ {A = ℕ} 1 0 = ap (λ (x : Bool). cond x 1 0) e in
    absurd (omega arith)

-- the dates behind the first one
tail-listed : (first : ℕ) (xs ys : List ℕ) → Rising (first ∷ xs) → Rising (first ∷ ys) → (d : ℕ) → listed d (first ∷ xs) ≡ listed d (first ∷ ys) →
    listed d xs ≡ listed d ys
unfolding listed
tail-listed first xs ys r s d h = go (eqb first d) refl h
  where
    go : (b : Bool) → eqb first d ≡ b → (b || listed d xs) ≡ (b || listed d ys) → listed d xs ≡ listed d ys
    go true e p =
        let same : first ≡ d = eqb-true first d e in
        not_listed d xs (subst (λ f. Before f xs) same r.0) r.1 ∙ sym (not_listed d ys (subst (λ f. Before f ys) same s.0) s.1)
    go false e p = p

-- two rising lists with the same dates are one list
pub one_list : (xs ys : List ℕ) → Rising xs → Rising ys → ((d : ℕ) → listed d xs ≡ listed d ys) → xs ≡ ys
one_list [] [] r s h = refl
one_list [] (y ∷ ys) r s h = contradiction (listed y (y ∷ ys)) (listed y []) (sym (h y)) (first-listed y ys) (not_listed y [] tt tt)
one_list (x ∷ xs) [] r s h = contradiction (listed x (x ∷ xs)) (listed x []) (h x) (first-listed x xs) (not_listed x [] tt tt)
one_list (x ∷ xs) (y ∷ ys) r s h = go (ltb x y) refl (ltb y x) refl (one_list xs ys r.1 s.1)
  where
    same_first : x ≡ y → (((d : ℕ) → listed d xs ≡ listed d ys) → xs ≡ ys) → x ∷ xs ≡ y ∷ ys
    same_first e rest =
        let tails : xs ≡ ys =
        rest (λ d. tail-listed x xs ys r (subst (λ f. Rising (f ∷ ys)) (sym e) s) d (subst (λ f. listed d (x ∷ xs) ≡ listed d (f ∷ ys)) (sym e) (h d))) in
        rw (e, tails)

    go : (p : Bool) → ltb x y ≡ p → (q : Bool) → ltb y x ≡ q → (((d : ℕ) → listed d xs ≡ listed d ys) → xs ≡ ys) → x ∷ xs ≡ y ∷ ys
    go true e q f rest = contradiction (listed x (x ∷ xs)) (listed x (y ∷ ys)) (h x) (first-listed x xs) (not_listed x (y ∷ ys) (ltb-true x y e) s)
    go false e true f rest = contradiction (listed y (y ∷ ys)) (listed y (x ∷ xs)) (sym (h y)) (first-listed y ys) (not_listed y (x ∷ xs) (ltb-true y x f) r)
    go false e false f rest = same_first (omega (arith, ltb-false x y e, ltb-false y x f)) rest
