use Rattle.std.proofs.Common.{rules, pos, int_le, sym, subst, ◌∙◌}
use Rattle.std.specs.List.{list_all}
use Rattle.std.proofs.lemmas.Iterator.Adapters.{serves_from_places}
use Rattle.std.proofs.lemmas.Iterator.Consumers.{YieldsList-from_first}
use Rattle.std.proofs.lemmas.Iterator.Search.{all_from_yields_List}
use Rattle.std.proofs.lemmas.List.Folds.{list_all-map}
use Rattle.gx_num.specs.Vector.{IsWithin}
use Rattle.gx_plane.specs.Plane.{reach}
use Rattle.gx_polygon.specs.Around.{around}
use Rattle.gx_polygon.specs.Polygon.{turn}
use Rattle.gx_polygon.proofs.Convex.{backwards}
use Rattle.gx_polygon.proofs.Rounds.{around_pairs}
use Rattle.gx_polygon.proofs.polygon.are_right.Goals as goal

pub all-requires-clause-callable : goal.all-requires-clause-callable
all-requires-clause-callable c =
    let within = around_pairs (IsWithin reach) c.args.corners.now c.requires in
    serves_from_places (YieldsList-from_first (λ x. x) (λ edges. edges) (around c.args.corners.now) c.new.ensures)
    (λ x q k. search rules)
    (λ x k lt e. let h = subst (λ t. IsWithin reach t.0 × IsWithin reach t.1) (sym e) (within k x lt) in search rules)

pub returns : goal.returns
returns c =
    all_from_yields_List _ _ _ _ c.all.ensures.ran (YieldsList-from_first (λ x. x) (λ edges. edges) (around c.args.corners.now) c.new.ensures)
    (λ x b q k. search rules)
    ∙ sym (list_all-map (λ e. list_all (λ p. int_le (pos 0) (turn e.0 e.1 p)) c.args.corners.now) backwards (around c.args.corners.now))
