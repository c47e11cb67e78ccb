use Rattle.std.proofs.Common.{◌≡◌, ◌∙◌, ◌+◌, ◌-◌, [], ◌∷◌, ◌++◌, map, true, inl, inr, sym, ap, subst, arith}
use Rattle.std.specs.List.{range_with_len}
use Rattle.std.proofs.lemmas.Bool.{cases_lt}
use Rattle.std.proofs.lemmas.List.FromFn.{map-range_with_len_more}
use Rattle.gx_offers.specs.Offers.{IsOffered, with_number}
use Rattle.gx_offers.proofs.Offered.{one, both}
use Rattle.gx_along.specs.Line.{time}
use Rattle.gx_slabs.specs.Row.{copy_at, is_entered_at}
use Rattle.gx_slabs.proofs.slabs.offer_along.Goals as goal

pub loop-j-preserved : goal.loop-j-preserved
loop-j-preserved c =
    let v = c.loop-j.invariant in
    let r = c.args.row in
    let s = c.first_left-start.result in
    let j = c.loop-j.j in
    let more : map (copy_at r) (range_with_len s (j - s)) ++ copy_at r j ∷ [] ≡ map (copy_at r) (range_with_len s (j + 1 - s)) =
    sym (map-range_with_len_more (copy_at r) s (j - s) j (omega (arith, v.order))) ∙ ap (λ n. map (copy_at r) (range_with_len s n)) (omega (arith, v.order)) in
    let next = one (λ _. Unit {0}) c.loop-j.offers (copy_at r j) in
    let is = c.offer.ensures ∙ ap (with_number c.loop-j.offers) c.copy.ensures.value in
    record {
      order = omega (arith, v.order);
      bound = omega (arith, c.loop-j-test.true);
      entered = λ m from to. elim (cases_lt m j) [
        | inl less ↦ v.entered m from less
        | inr past ↦ subst (λ n. is_entered_at r (time c.args.stretch.to) n ≡ true) (omega (arith, past, to)) (sym c.is_entered.ensures ∙ c.if-not-is_entered.false)
      ];
      offered = subst (λ ks. IsOffered (λ _. Unit {0}) ks c.args.offers.now c.offer.new.self) more (both (λ _. Unit {0}) (map (copy_at r) (range_with_len s (j - s))) (copy_at r j ∷ []) c.args.offers.now c.loop-j.offers c.offer.new.self v.offered (subst (IsOffered (λ _. Unit {0}) (copy_at r j ∷ []) c.loop-j.offers) (sym is) next));
    }
