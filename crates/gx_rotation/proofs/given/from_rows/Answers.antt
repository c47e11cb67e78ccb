use Rattle.std.proofs.Common.{◌≡◌, ◌∙◌, true, rules}
use Rattle.gx_rotation.specs.Matrix.{Matrix}
use Rattle.gx_rotation.specs.Rotation.{takes_axes_to_axes}
use Rattle.gx_rotation.proofs.Oriented.{checked-where}
use Rattle.gx_rotation.proofs.given.from_rows.Goals as goal

pub returns-then-apply-lt0 : goal.returns-then-apply-lt0
returns-then-apply-lt0 c =
    let m : Matrix = record { x = c.args.x; y = c.args.y; z = c.args.z } in
    let takes : takes_axes_to_axes m ≡ true = search rules in
    rw (checked-where m _ _ takes (c.new-rotation.ensures ∙ search rules) c.apply.ensures) (search rules)

pub returns : goal.returns
returns c =
    let m : Matrix = record { x = c.args.x; y = c.args.y; z = c.args.z } in
    let takes : takes_axes_to_axes m ≡ true = search rules in
    rw (checked-where m _ _ takes (c.new-rotation.ensures ∙ search rules) c.apply.ensures) (search rules)
