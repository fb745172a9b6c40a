-- `file_check::codes_question` meets its contract: each code is asked with the one before it.
use Rattle.std.proofs.Common.{◌≡◌, ◌∙◌, ◌+◌, ◌*◌, arith, rules, Err}
use Rattle.std.specs.Iterator.Adapters.{enumerate_count}
use Rattle.file_check.proofs.Asked.{code-refused, code_passed, codes-end}
use Rattle.file_check.proofs.codes_question.Goals as goal

pub returns-in_err-code_question : goal.returns-in_err-code_question
returns-in_err-code_question g c all yields =
    let told : c.from_residual.result ≡ Err c.in_err-code_question.field-0.0 = search rules in
    let here : 6 + enumerate_count c.loop-k.k-iterator * c.args.apart ≡ 6 + c.in-Some.k * c.args.apart = rw c.in-Some.ensures.steps.1 in
    let left = rw here at (c.loop-k.invariant.1 all yields) in
    told ∙ code-refused g.I.Iterator.next_gives c.args.apart _ left c.in-Some.code c.in-Some.ensures.steps.0 c.code_question.ensures c.in_err-code_question.was

pub loop-k-preserved : goal.loop-k-preserved
loop-k-preserved g c =
    let goes = c.in-Some.ensures.goes.on c.loop-k.invariant.0.0 in
    let counted : enumerate_count c.next.new.self ≡ c.in-Some.k + 1 = rw c.in-Some.ensures.steps.1 c.in-Some.ensures.steps.2 in (
      (goes.1, omega (arith, goes.2, counted, c.in-Some.ensures.steps.1, c.loop-k.invariant.0.1)),
      λ all yields.
          let here : 6 + enumerate_count c.loop-k.k-iterator * c.args.apart ≡ 6 + c.in-Some.k * c.args.apart = rw c.in-Some.ensures.steps.1 in
          let left = rw here at (c.loop-k.invariant.1 all yields) in
          let next : 6 + c.in-Some.k * c.args.apart + c.args.apart ≡ 6 + (c.in-Some.k + 1) * c.args.apart = omega arith in
          rw (counted, ← next) (code_passed g.I.Iterator.next_gives c.args.apart _ left c.in-Some.code c.in-Some.ensures.steps.0 c.code_question.ensures c.in_ok-code_question.was),
    )

pub returns : goal.returns
returns g c all yields = codes-end g.I.Iterator.next_gives c.args.apart _ (c.loop-k.invariant.1 all yields) c.in-None.ensures.steps.0
