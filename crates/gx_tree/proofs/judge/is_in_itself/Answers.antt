use Rattle.std.proofs.Common.{rules, ◌≡◌, ◌↔◌, ◌||◌, ℕ, Bool, true, false, List, length, replicate, nat_eq, ap, ◌∙◌, subst, arith}
use Rattle.std.specs.List.{list_any}
use Rattle.std.proofs.lemmas.List.{get_or_read, with_items_is}
use Rattle.gx_tree.specs.Volume.{Volume, daughter_of}
use Rattle.gx_tree.specs.Hierarchy.{volume_at}
use Rattle.gx_tree.specs.Marks.{is_marked, IsReached}
use Rattle.gx_tree.proofs.Judged.{none-marked, in_itself_is}
use Rattle.gx_tree.proofs.judge.is_in_itself.Goals as goal

pub returns : goal.returns
returns c =
    let volumes = c.args.volumes.now in
    let n = length volumes in
    let marks = c.mark.new.marks in
    let reached = c.in_ok-reached.reached.items in
    let at : c.index-volumes-v.result ≡ volume_at volumes c.args.v = get_or_read volumes _ _ c.requires.volume c.index-volumes-v.is _ in
    let placements : c.placements.result.now ≡ (volume_at volumes c.args.v).placements = c.placements.ensures ∙ ap (λ (v : Volume). v.placements) at in
    let none : c.deref_mut.result.now ≡ replicate n false = c.deref_mut.ensures.value ∙ search rules in
    let marked : (w : ℕ) → is_marked marks w ≡ list_any (λ p. nat_eq (daughter_of p) w) (volume_at volumes c.args.v).placements =
    λ w. c.mark.ensures w ∙ (λ i. is_marked (none i) w || list_any (λ p. nat_eq (daughter_of p) w) (placements i)) ∙ ap (λ b. b || list_any (λ p. nat_eq (daughter_of p) w) (volume_at volumes c.args.v).placements) (none-marked n w) in
    let same : c.deref.result.now ≡ marks = c.deref.ensures.value ∙ with_items_is c.in_ok-marks.marks marks (omega arith) in
    let all : is_marked reached c.args.v ≡ true ↔ IsReached volumes marks c.args.v =
    subst (λ (ms : List Bool). is_marked reached c.args.v ≡ true ↔ IsReached volumes ms c.args.v) same (c.in_ok-reached.ensures.reached c.args.v) in
    get_or_read reached _ _ (omega (arith, c.in_ok-reached.ensures.count, c.requires.volume)) c.index.ensures false ∙ in_itself_is volumes c.args.v marks reached marked all
