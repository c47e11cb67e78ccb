-- What forms give, whatever they read from.
use Rattle.std.proofs.Common.{Bool, true, false, if◌then◌else◌}
use Rattle.gx_form.specs.Form.{Form, ◌>>=◌}
use Rattle.gx_shapes.proofs.Given.{Gives, then_gives}

abbrev pub Anything : {A : Type 0} → A → Type 0
Anything a = Unit {0}

pub anything : {S A : Type 0} (p : Form S A) → Gives p Anything
anything p = record { given = λ s a t e. tt }

-- what comes before doesn't matter
pub after : {S A B : Type 0} (p : Form S A) (f : A → Form S B) (P : B → Type 0) → ((a : A) → Gives (f a) P) → Gives (p >>= f) P
after p f P h = then_gives p f Anything P (anything p) (λ a _. h a)

pub choice_gives : {S A : Type 0} (c : Bool) (p q : Form S A) (P : A → Type 0) → Gives p P → Gives q P → Gives (if c then p else q) P
choice_gives true p q P h k = h
choice_gives false p q P h k = k
