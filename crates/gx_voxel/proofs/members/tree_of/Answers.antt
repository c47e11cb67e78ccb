use Rattle.std.proofs.Common.{◌≡◌, arith, ap, sym, ◌∙◌, subst, map, length, Result, Ok, Err}
use Rattle.std.specs.Prelude.{IfOk}
use Rattle.std.specs.List.{All, AllByRecursion}
use Rattle.std.specs.List.Sorted.{IsPermutation}
use Rattle.std.proofs.lemmas.List.{take_all}
use Rattle.gx_boxes.specs.Boxes.{IsProper}
use Rattle.gx_boxes.specs.declared.boxed.Boxed.{Boxed}
use Rattle.gx_voxel.specs.Members.{extent_at}
use Rattle.gx_voxel.specs.Kept.{boxed_at}
use Rattle.gx_voxel.proofs.Boxed.{proper-boxed, numbers-same, kept-same}
use Rattle.gx_voxel.proofs.members.tree_of.Goals as goal

if_ok-map : {A E : Type 0} (P Q : A → Type 0) (r : Result A E) → ((a : A) → P a → Q a) → IfOk r P → IfOk r Q
if_ok-map P Q (Ok a) f h = f a h
if_ok-map P Q (Err e) f h = tt

pub new-requires : goal.new-requires
new-requires c =
    let all = c.loop-k.invariant ∙ ap (map (boxed_at c.args.extents.now)) (take_all c.loop-k.k-index c.args.list.now (omega (arith, c.loop-k-test.false))) in
    subst (All (λ (b : Boxed). IsProper b.extent)) (sym all) (proper-boxed c.args.extents.now c.args.list.now c.requires.below c.requires.proper)

pub returns-clause-same : goal.returns-clause-same
returns-clause-same c =
    let all = c.loop-k.invariant ∙ ap (map (boxed_at c.args.extents.now)) (take_all c.loop-k.k-index c.args.list.now (omega (arith, c.loop-k-test.false))) in
    if_ok-map (λ t. IsPermutation c.loop-k.boxes.items t) (λ t. IsPermutation c.args.list.now (map (λ b. b.number) t)) c.new.result
    (λ t same. numbers-same c.args.extents.now c.args.list.now t (subst (λ l. IsPermutation l t) all same)) c.new.ensures

pub returns-clause-kept : goal.returns-clause-kept
returns-clause-kept c =
    let all = c.loop-k.invariant ∙ ap (map (boxed_at c.args.extents.now)) (take_all c.loop-k.k-index c.args.list.now (omega (arith, c.loop-k-test.false))) in
    if_ok-map (λ t. IsPermutation c.loop-k.boxes.items t) (λ t. AllByRecursion (λ b. b.extent ≡ extent_at c.args.extents.now b.number) t) c.new.result
    (λ t same. kept-same c.args.extents.now c.args.list.now t (subst (λ l. IsPermutation l t) all same)) c.new.ensures
