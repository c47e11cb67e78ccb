use Rattle.std.proofs.Common.{◌≡◌, ℕ, sym, ◌∙◌, arith, refl}
use Rattle.gx_num.specs.declared.vector.V3.{V3}
use Rattle.gx_convex.proofs.Distinct.{Decides-is_same}
use Rattle.gx_common.specs.Common.{mixed}
use Rattle.gx_common.proofs.candidate.Candidate.is_copy.Goals as goal

same_mixed : (k n : ℕ) (p r : V3) (l m : ℕ) (q s : V3) → k ≡ n → l ≡ m → p ≡ r → q ≡ s → mixed k p l q ≡ mixed n r m s
same_mixed k n p r l m q s a b c d = rw (a, b, c, d) refl

pub returns : goal.returns
returns c = λ t.
    let s = c.self.inside in
    let o = c.other.inside in
    let k : s.k ≡ o.k = omega (arith, c.if-self-other.false) in
    let l : s.l ≡ o.l = omega (arith, c.if-self-other-2.false) in
    let p : s.p ≡ o.p = (Decides-is_same s.p o.p).0 (sym c.is_same_vertex.ensures ∙ c.if-not-is_same_vertex.false) in
    let q : s.q ≡ o.q = (Decides-is_same s.q o.q).0 (sym c.is_same_vertex-2.ensures ∙ t) in
    sym c.self.view_is ∙ same_mixed s.k o.k s.p o.p s.l o.l s.q o.q k l p q ∙ c.other.view_is
