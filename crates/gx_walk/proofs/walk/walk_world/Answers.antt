use Rattle.std.proofs.Common.{◌≡◌, length, sym, ap, ◌∙◌, subst}
use Rattle.gx_io.specs.Bytes.{Writes}
use Rattle.gx_fraction.specs.Fraction.{parameter_of}
use Rattle.gx_path.specs.Path.{max_length}
use Rattle.gx_partition.specs.Partition.{open_rows}
use Rattle.gx_partition.specs.Walk.{pieces_of}
use Rattle.gx_walk.specs.Hits.{hits_of, items_of}
use Rattle.gx_walk.specs.Giving.{items_below, rows_of}
use Rattle.gx_walk.proofs.Open.{open-pieces}
use Rattle.gx_walk.proofs.walk.walk_world.Goals as goal

pub returns-clause-rows : goal.returns-clause-rows
returns-clause-rows g c =
    let items = g.R.Rows.items c.args.rows.now in
    let hits = hits_of (g.G.Geometry.met_of c.args.geometry.now) (g.G.Geometry.count_of c.args.geometry.now) in
    let from = parameter_of c.args.span.from in
    let to = parameter_of c.args.span.to in
    let world = c.args.world.now in
    let n = length c.as_mut_slice.result.now in
    let levels : n ≡ max_length = ap length c.as_mut_slice.ensures.value ∙ c.scratch.invariant.0 in
    let whole : items_below items c.new.result (rows_of hits n from to world) ≡ items_of items (open_rows (pieces_of hits max_length from to world)) =
    ap (λ p. items_below items p (rows_of hits n from to world)) c.new.ensures
    ∙ ap (λ n. items_of items (rows_of hits n from to world)) levels
    ∙ ap (items_of items) (sym (open-pieces hits max_length from to world)) in
    subst (λ l. Writes (g.R.Rows.held c.args.rows.now) (g.R.Rows.held c.emit.new.rows) l c.emit.result) whole c.emit.ensures.rows
