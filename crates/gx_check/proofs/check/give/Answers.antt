use Rattle.std.proofs.Common.{[], ◌∷◌, cond, ap, ◌∙◌}
use Rattle.gx_check.proofs.Giving.{given_none, given_one}
use Rattle.gx_check.proofs.check.give.Goals as goal
use Rattle.gx_check.proofs.check.give.Goals.{then-has+in_ok-verdict, else-has}

pub returns-clause-gives : goal.returns-clause-gives
returns-clause-gives g c =
    let verdict = c.args.verdict.now in
    elim c.if-has.branch [
      | then-has+in_ok-verdict w ↦
          let given = w.in_ok-verdict.ensures in
          rw w.out-is (given_one c.of.result c.args.selection verdict c.args.out.now w.verdict.new.self (c.has.ensures ∙ ap (λ b. cond b (verdict ∷ []) []) w.if-has.true) given.given.all given.same_items given.same_takes given.cause.kept)
      | else-has w ↦ rw w.out-is (given_none c.of.result c.args.selection verdict c.args.out.now (c.has.ensures ∙ ap (λ b. cond b (verdict ∷ []) []) w.if-has.false))
    ]
