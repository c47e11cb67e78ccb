use Rattle.std.proofs.Common.{◌≡◌, Option, Some, None, List, refl, ◌∙◌}
use Rattle.std.specs.Option.{is_some, option_map}
use Rattle.gx_num.specs.Vector4.{Vec4}
use Rattle.gx_common.proofs.Quick.{meet_is}
use Rattle.gx_common.proofs.common.insides_meet.Goals as goal

mapped : {X : Type 0} (f : X → List Vec4) (o : Option X) → is_some o ≡ is_some (option_map f o)
mapped f None = refl
mapped f (Some x) = refl

pub returns : goal.returns
returns c =
    let e = c.in_ok-candidates.ensures in
    c.is_some.ensures ∙ mapped _ c.in_ok-candidates.candidates ∙ meet_is c.args.a.now c.args.b.now e.vertices.solid e.others.solid _ e.value
