-- Points are taken for all faces exactly where each face is reached.
use Rattle.std.proofs.Common.{◌≡◌, Option, Some, None, List, [], ◌∷◌, find, All, refl, sym, ap, ◌∙◌, true≢false}
use Rattle.std.specs.Option.{option_map, option_and_then}
use Rattle.std.proofs.lemmas.List.Elements.{All-nil, All-cons, All-head, All-tail}
use Rattle.gx_num.specs.Space.{HalfSpace}
use Rattle.gx_num.specs.Vector4.{Vec4}
use Rattle.gx_algebra.proofs.Lists.{find-none}
use Rattle.gx_common.specs.Common.{is_strict, taken}
use Rattle.gx_common.specs.Laws.{IsReached}
use Rattle.gx_common.proofs.Lists.{find_some}

pub taken_from_reached : (points : List Vec4) (hs : List HalfSpace) → All (IsReached points) hs → (ps : List Vec4) × (taken points hs ≡ Some ps)
taken_from_reached points [] h = ([], refl)
taken_from_reached points (g ∷ hs) h = go (find (is_strict g) points) refl (taken_from_reached points hs (All-tail (IsReached points) g hs h))
  where
    r : IsReached points g
    r = All-head (IsReached points) g hs h

    go : (o : Option Vec4) → find (is_strict g) points ≡ o → (ps : List Vec4) × (taken points hs ≡ Some ps) → (ps : List Vec4) × (taken points (g ∷ hs) ≡ Some ps)
    go None e rest = absurd (true≢false (sym r.strict ∙ find-none (is_strict g) points r.point e r.in_list))
    go (Some p) e (ps, k) = (p ∷ ps, ap (option_and_then (λ p. option_map (λ ps. p ∷ ps) (taken points hs))) e ∙ ap (option_map (λ ps. p ∷ ps)) k)

pub reached_from_taken : (points : List Vec4) (hs : List HalfSpace) (ps : List Vec4) → taken points hs ≡ Some ps → All (IsReached points) hs
reached_from_taken points [] ps e = All-nil (IsReached points)
reached_from_taken points (g ∷ hs) ps e = go (find (is_strict g) points) (taken points hs) refl refl (reached_from_taken points hs) e
  where
    go : (o : Option Vec4) (u : Option (List Vec4)) → find (is_strict g) points ≡ o → taken points hs ≡ u → ((qs : List Vec4) → taken points hs ≡ Some qs → All (IsReached points) hs) → option_and_then (λ p. option_map (λ ps. p ∷ ps) u) o ≡ Some ps → All (IsReached points) (g ∷ hs)
    go None u f k rest s = cc
    go (Some p) None f k rest s = cc
    go (Some p) (Some qs) f k rest s =
        let is = find_some (is_strict g) points p f in
        All-cons (IsReached points) g hs (record { point = p; in_list = is.0; strict = is.1 }) (rest qs k)
