-- What comes of steps that may fail came of each of them.
use Rattle.std.proofs.Common.{◌≡◌, Bool, true, false, refl, if◌then◌else◌, Option, None, Some, Result, Ok, Err}
use Rattle.gx_form.specs.First.{◌>>=◌}
use Rattle.gx_form.specs.declared.fault.Fault.{Fault}
use Rattle.gx_gather.specs.Table.{unless}

pub record IsThen {A B E : Type 0} (r : Result A E) (next : A → Result B E) (b : B) : Type 0 where
  pub first : A
  pub is : r ≡ Ok first
  pub rest : next first ≡ Ok b

pub steps : {A B E : Type 0} (r : Result A E) (next : A → Result B E) (b : B) → (r >>= next) ≡ Ok b → IsThen r next b
steps (Ok a) next b e = record { first = a; is = refl; rest = e }
steps (Err x) next b e = absurd cc

-- where it isn't refused
pub otherwise : {A E : Type 0} (c : Bool) (fault : E) (r : Result A E) (b : A) → (if c then Err fault else r) ≡ Ok b → (c ≡ false) × (r ≡ Ok b)
otherwise true fault r b e = absurd cc
otherwise false fault r b e = (refl, e)

pub unless-ok : {A : Type 0} (o : Option Fault) (a b : A) → unless o a ≡ Ok b → (o ≡ None) × (a ≡ b)
unless-ok None a b e = (refl, cc)
unless-ok (Some fault) a b e = absurd cc
