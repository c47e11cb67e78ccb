use Rattle.std.proofs.Common.{rules, ◌≡◌, ◌↔◌, ℕ, suc, Bool, true, false, List, length, set, replicate, ap, ◌∙◌, subst}
use Rattle.std.specs.Prelude.{find}
use Rattle.std.specs.List.{range_with_len}
use Rattle.gx_tree.specs.Hierarchy.{numbers, max_depth}
use Rattle.gx_tree.specs.Fault.{is_too_deep}
use Rattle.gx_tree.specs.Marks.{is_marked, IsLed, IsReached}
use Rattle.gx_tree.proofs.Numbers.{find-same}
use Rattle.gx_tree.proofs.Judged.{too_deep_is}
use Rattle.gx_tree.proofs.judge.first_too_deep.Goals as goal

pub returns : goal.returns
unfolding max_depth
returns c =
    let volumes = c.args.volumes.now in
    let n = length volumes in
    let reached = c.in_ok-reached.reached.items in
    let deep = c.in_ok-deep.deep.items in
    let none : c.in_ok-marks.marks.items ≡ replicate n false = search rules in
    let led : (u : ℕ) → is_marked deep u ≡ true ↔ IsLed volumes (set (replicate n false) c.args.world true) (suc max_depth) u =
    subst (λ (ms : List Bool). (u : ℕ) → is_marked deep u ≡ true ↔ IsLed volumes (set ms c.args.world true) (suc max_depth) u) none c.in_ok-deep.ensures.led in
    let all : (w : ℕ) → is_marked reached w ≡ true ↔ IsReached volumes deep w =
    subst (λ (ms : List Bool). (w : ℕ) → is_marked reached w ≡ true ↔ IsReached volumes ms w) c.deref.ensures.value c.in_ok-reached.ensures.reached in
    let same : (w : ℕ) → is_marked reached w ≡ is_too_deep volumes c.args.world w = λ w. too_deep_is volumes c.args.world deep reached w c.requires.world c.in_ok-deep.ensures.count led (all w) in
    c.first_marked.ensures
    ∙ ap (λ (ms : List Bool). find (is_marked ms) (range_with_len 0 (length ms))) c.deref-2.ensures.value
    ∙ ap (λ k. find (is_marked reached) (range_with_len 0 k)) c.in_ok-reached.ensures.count
    ∙ find-same (is_marked reached) (is_too_deep volumes c.args.world) (numbers volumes) same
