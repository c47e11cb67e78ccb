use Rattle.std.proofs.Common.{◌≡◌, ◌+◌, ◌++◌, arith, length, length-append, List, Result, Ok, Err}
use Rattle.std.specs.Prelude.{IfOk}
use Rattle.std.specs.List.{All}
use Rattle.std.specs.List.Sorted.{IsPermutation}
use Rattle.std.proofs.lemmas.List.Sorted.{All-permutation, length_permutation}
use Rattle.gx_algebra.proofs.Lists.{All-append_parts}
use Rattle.gx_boxes.specs.Tree.{IsInReach, IsMore}
use Rattle.gx_boxes.specs.declared.boxed.Boxed.{Boxed}
use Rattle.gx_boxes.proofs.Trees.{more-of}
use Rattle.gx_boxes.proofs.tree.+push_tree.Goals as goal

longer : (boxes front back : List Boxed) → IsPermutation boxes (front ++ back) → length boxes ≡ length front + length back
longer boxes front back same = omega (arith, length_permutation boxes (front ++ back) same, length-append front back)

reaching : (boxes front back : List Boxed) → IsPermutation boxes (front ++ back) → All (λ (b : Boxed). IsInReach b.extent) boxes → All (λ (b : Boxed). IsInReach b.extent) front × All (λ (b : Boxed). IsInReach b.extent) back
reaching boxes front back same reach = All-append_parts (λ (b : Boxed). IsInReach b.extent) front back (All-permutation (λ (b : Boxed). IsInReach b.extent) boxes (front ++ back) same reach)

pub push_tree-requires : goal.push_tree-requires
push_tree-requires t c =
    let front = c.parted-front.result.0.now in let back = c.parted-front.result.1.now in (
      omega (arith, c.decreases, c.parted-front.ensures.front, c.parted-front.ensures.back, longer c.args.boxes.now front back c.parted-front.ensures.same),
      (c.parted-front.ensures.front, (reaching c.args.boxes.now front back c.parted-front.ensures.same c.requires.reach).0),
    )

pub push_tree-requires-2 : goal.push_tree-requires-2
push_tree-requires-2 t c =
    let front = c.parted-front.result.0.now in let back = c.parted-front.result.1.now in (
      omega (arith, c.decreases, c.parted-front.ensures.front, c.parted-front.ensures.back, longer c.args.boxes.now front back c.parted-front.ensures.same),
      (c.parted-front.ensures.back, (reaching c.args.boxes.now front back c.parted-front.ensures.same c.requires.reach).1),
    )

if_ok-map : {A E : Type 0} (P Q : A → Type 0) (r : Result A E) → ((a : A) → P a → Q a) → IfOk r P → IfOk r Q
if_ok-map P Q (Ok a) f h = f a h
if_ok-map P Q (Err e) f h = tt

pub returns : goal.returns
returns t c =
    let front = c.parted-front.result.0.now in let back = c.parted-front.result.1.now in
    let old = c.args.parts.now.items in let twice = c.push_tree.new.parts.items in let new = c.push_tree-2.new.parts.items in
    if_ok-map (λ _. IsMore back twice new) (λ _. IsMore c.args.boxes.now old new) c.push_tree-2.result
    (λ _ more. more-of c.args.boxes.now front back c.bounds_of-bounds.result old c.push-2.new.self.items twice new
    c.parted-front.ensures.same c.parted-front.ensures.front c.parted-front.ensures.back c.bounds_of-bounds.ensures.each c.bounds_of-bounds.ensures.reach c.in_ok-push-2.ensures.items c.in_ok-push_tree.ensures more)
    c.push_tree-2.ensures
