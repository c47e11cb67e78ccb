use Rattle.std.proofs.Common.{◌≡◌, ◌≤◌, ◌-◌, ◌+◌, length, sym, ap, ◌∙◌, subst, arith}
use Rattle.gx_reader.specs.Resumed.{IsOpenReader}
use Rattle.gx_reader.specs.declared.reader.TheConstants.{MAX_TEXT}
use Rattle.gx_reader.proofs.reader.Reader.feed.Goals as goal
use Rattle.gx_reader.proofs.reader.Reader.feed.Goals.{then-self-le-MAX_TEXT, else-self-le-MAX_TEXT}

pub invariant_of-self-2 : goal.invariant_of-self-2
invariant_of-self-2 c = elim c.if-self-le-MAX_TEXT.branch [
  | then-self-le-MAX_TEXT w ↦ λ le.
      let sum = c.saturating_add-self-inside.result in
      let same : MAX_TEXT - c.self.inside.count ≡ length c.args.piece.now + (MAX_TEXT - sum) = omega (arith, c.saturating_add-self-inside.ensures, w.if-self-le-MAX_TEXT.true) in
      let before = subst (λ more. IsOpenReader more c.self.inside.lines) same (c.self.invariant (omega (arith, c.saturating_add-self-inside.ensures, w.if-self-le-MAX_TEXT.true))) in
      subst (λ s. IsOpenReader (MAX_TEXT - s.count) s.lines) (sym w.self-inside-is) (w.read.ensures.kept (MAX_TEXT - sum) before)
  | else-self-le-MAX_TEXT w ↦ λ le. absurd (omega (arith, le, ap (λ s. s.count) w.self-inside-is, w.if-self-le-MAX_TEXT.false))
]
