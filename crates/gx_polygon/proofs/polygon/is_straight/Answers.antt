use Rattle.std.proofs.Common.{rules, refl, sym, ap, subst, ◌∙◌}
use Rattle.std.proofs.lemmas.List.{append-nil}
use Rattle.std.proofs.lemmas.Iterator.Adapters.{serves_from_places}
use Rattle.std.proofs.lemmas.Iterator.Consumers.{YieldsList-from_first}
use Rattle.std.proofs.lemmas.Iterator.Search.{all_from_yields_List}
use Rattle.gx_num.specs.Vector.{IsWithin}
use Rattle.gx_plane.specs.Plane.{reach}
use Rattle.gx_plane.specs.Between.{triples_of}
use Rattle.gx_plane.proofs.TripleFacts.{All-triples_of}
use Rattle.gx_polygon.proofs.polygon.is_straight.Goals as goal

pub all-requires-clause-callable : goal.all-requires-clause-callable
all-requires-clause-callable c =
    let within = All-triples_of (IsWithin reach) c.args.corners.now c.requires in
    serves_from_places (YieldsList-from_first (λ x. x) (λ triples. triples) (triples_of c.args.corners.now) (c.new.ensures ∙ ap triples_of (append-nil c.args.corners.now)))
    (λ x q k. refl)
    (λ x k lt e. let h = subst (λ t. IsWithin reach t.0 × IsWithin reach t.1 × IsWithin reach t.2) (sym e) (within k x lt) in search rules)

pub returns : goal.returns
returns c =
    all_from_yields_List _ _ _ _ c.all.ensures.ran
    (YieldsList-from_first (λ x. x) (λ triples. triples) (triples_of c.args.corners.now) (c.new.ensures ∙ ap triples_of (append-nil c.args.corners.now)))
    (λ x b q k. search rules)
