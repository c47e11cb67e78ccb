use Rattle.std.proofs.Common.{[], All, IsTrue, refl, sym, ap, subst, ◌∙◌, append-nil}
use Rattle.std.proofs.lemmas.Result.{err_from_is_err_and}
use Rattle.gx_algebra.proofs.Lists.{All-append_parts}
use Rattle.gx_check.specs.Counting.{IsFew, plus}
use Rattle.gx_check.specs.Verdicts.{daughter_verdicts, pair_verdicts, verdicts_in, chosen, counts_of}
use Rattle.gx_check.proofs.Giving.{start, takes_more, more, stopped, ended, given_nothing, counts_of-append, few_counts}
use Rattle.gx_check.proofs.Left.{in_parts}
use Rattle.gx_check.proofs.Sizes.{few_daughters, few_pairs}
use Rattle.gx_check.proofs.check.check_mother.Goals as goal

pub returns-in_err-daughters-clause-gives : goal.returns-in_err-daughters-clause-gives
returns-in_err-daughters-clause-gives g c =
    let p = err_from_is_err_and c.from_residual.result c.from_residual.ensures.1 in
    rw (p.1, p.2) (given_nothing c.args.out.now (chosen c.args.selection (verdicts_in c.args.tree.now c.args.mother)))

-- ---- of daughters
pub check_daughters-requires : goal.check_daughters-requires
check_daughters-requires g c =
    let ds = c.in_ok-daughters.daughters in
    let a = daughter_verdicts c.args.mother c.hull-outer.result.now ds in
    let b = pair_verdicts c.args.mother ds in
    let whole = in_parts c.args.tree.now c.args.mother c.solid.result.now c.hull-outer.result.now ds c.solid.ensures.value c.hull-outer.ensures.value c.in_ok-daughters.ensures.value in
    (All-append_parts (λ x. IsTrue (g.V.Verdicts.takes c.args.out.now x)) a b (subst (All (λ x. IsTrue (g.V.Verdicts.takes c.args.out.now x))) (sym whole) c.requires.takes)).0

pub returns-in_err-judged-clause-gives : goal.returns-in_err-judged-clause-gives
returns-in_err-judged-clause-gives g c =
    let ds = c.in_ok-daughters.daughters in
    let a = daughter_verdicts c.args.mother c.hull-outer.result.now ds in
    let b = pair_verdicts c.args.mother ds in
    let whole = in_parts c.args.tree.now c.args.mother c.solid.result.now c.hull-outer.result.now ds c.solid.ensures.value c.hull-outer.ensures.value c.in_ok-daughters.ensures.value in
    let p = err_from_is_err_and c.from_residual-in_err-judged.result c.from_residual-in_err-judged.ensures.1 in
    rw (p.1, p.2) (stopped (start c.args.selection c.args.out.now _ _ (counts_of []) whole refl) a b refl c.check_daughters.new.out c.in_err-judged.field-0.0 c.in_err-judged.ensures.gives)

-- ---- of pairs
pub check_pairs-requires : goal.check_pairs-requires
check_pairs-requires g c =
    let ds = c.in_ok-daughters.daughters in
    let a = daughter_verdicts c.args.mother c.hull-outer.result.now ds in
    let b = pair_verdicts c.args.mother ds in
    let whole = in_parts c.args.tree.now c.args.mother c.solid.result.now c.hull-outer.result.now ds c.solid.ensures.value c.hull-outer.ensures.value c.in_ok-daughters.ensures.value in
    let going = more (start c.args.selection c.args.out.now _ _ (counts_of []) whole refl) a b refl c.check_daughters.new.out c.in_ok-judged.judged (plus (counts_of []) c.in_ok-judged.judged) c.in_ok-judged.ensures.gives c.in_ok-judged.ensures.counts refl in
    takes_more going b [] (sym (append-nil b)) c.requires.takes

pub returns-in_err-paired-clause-gives : goal.returns-in_err-paired-clause-gives
returns-in_err-paired-clause-gives g c =
    let ds = c.in_ok-daughters.daughters in
    let a = daughter_verdicts c.args.mother c.hull-outer.result.now ds in
    let b = pair_verdicts c.args.mother ds in
    let whole = in_parts c.args.tree.now c.args.mother c.solid.result.now c.hull-outer.result.now ds c.solid.ensures.value c.hull-outer.ensures.value c.in_ok-daughters.ensures.value in
    let going = more (start c.args.selection c.args.out.now _ _ (counts_of []) whole refl) a b refl c.check_daughters.new.out c.in_ok-judged.judged (plus (counts_of []) c.in_ok-judged.judged) c.in_ok-judged.ensures.gives c.in_ok-judged.ensures.counts refl in
    let p = err_from_is_err_and c.from_residual-in_err-paired.result c.from_residual-in_err-paired.ensures.1 in
    rw (p.1, p.2) (stopped going b [] (sym (append-nil b)) c.check_pairs.new.out c.in_err-paired.field-0.0 c.in_err-paired.ensures.gives)

pub plus-requires : goal.plus-requires
plus-requires g c =
    let ds = c.in_ok-daughters.daughters in
    record {
      few = subst IsFew (sym c.in_ok-judged.ensures.counts) (few_counts (daughter_verdicts c.args.mother c.hull-outer.result.now ds) (few_daughters c.args.mother c.hull-outer.result.now ds c.in_ok-daughters.ensures.few));
      other_few = subst IsFew (sym c.in_ok-paired.ensures.counts) (few_counts (pair_verdicts c.args.mother ds) (few_pairs c.args.mother ds c.in_ok-daughters.ensures.few));
    }

pub returns : goal.returns
returns g c =
    let ds = c.in_ok-daughters.daughters in
    let a = daughter_verdicts c.args.mother c.hull-outer.result.now ds in
    let b = pair_verdicts c.args.mother ds in
    let whole = in_parts c.args.tree.now c.args.mother c.solid.result.now c.hull-outer.result.now ds c.solid.ensures.value c.hull-outer.ensures.value c.in_ok-daughters.ensures.value in
    let going = more (start c.args.selection c.args.out.now _ _ (counts_of []) whole refl) a b refl c.check_daughters.new.out c.in_ok-judged.judged (plus (counts_of []) c.in_ok-judged.judged) c.in_ok-judged.ensures.gives c.in_ok-judged.ensures.counts refl in
    let all = more going b [] (sym (append-nil b)) c.check_pairs.new.out c.in_ok-paired.paired (plus (plus (counts_of []) c.in_ok-judged.judged) c.in_ok-paired.paired) c.in_ok-paired.ensures.gives c.in_ok-paired.ensures.counts refl in
    record {
      gives = (ended all c.plus.result refl).0;
      counts = c.plus.ensures ∙ (λ i. plus (c.in_ok-judged.ensures.counts i) (c.in_ok-paired.ensures.counts i)) ∙ sym (counts_of-append a b) ∙ ap counts_of whole;
    }
