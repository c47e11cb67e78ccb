-- What holds of each corner of a facet.
use Rattle.std.specs.Prelude.{IfSome}
use Rattle.gx_num.specs.declared.vector.V3.{V3}
use Rattle.gx_shapes.specs.declared.facet.Facet.{Facet}

pub record EachCorner (P : V3 → Type 0) (f : Facet) : Type 0 where
  pub a : P f.a
  pub b : P f.b
  pub c : P f.c
  pub d : IfSome f.d P
