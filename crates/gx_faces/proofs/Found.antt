-- What is found over edges: faces, and that edges are joined.
use Rattle.std.proofs.Common.{◌≡◌, ℕ, ◌+◌, ◌<◌, get_or, length, take, arith, true, false, Bool, not, ◌&&◌, pos, ◌≤ℤ◌, int_le, Option, Some, None, IfSome, List, [], ◌∷◌, ◌++◌, filter, find, All, Contains, refl, sym, ap, ◌∙◌, subst, append_assoc, true≢false}
use Rattle.std.specs.Option.{option_map}
use Rattle.std.specs.List.{list_all, list_any}
use Rattle.std.proofs.lemmas.Bool.{and_parts}
use Rattle.std.proofs.lemmas.Bool.Decides.{Decides-int_eq}
use Rattle.std.proofs.lemmas.List.Elements.{All-nil, All-cons, All-head, All-tail, All-append, All-weaker, All-contains, All-contains_itself, All-push, Contains-append_left}
use Rattle.std.proofs.lemmas.List.{take_more, take-append-le}
use Rattle.gx_num.specs.declared.vector.V3.{V3}
use Rattle.gx_num.specs.Space.{HalfSpace}
use Rattle.gx_num.specs.Vector.{IsWithin}
use Rattle.gx_algebra.proofs.Lists.{Contains-head, Contains-tail}
use Rattle.gx_plane.specs.Plane.{reach, side_of, supports, flipped, plane_through}
use Rattle.gx_plane.specs.Between.{both_ways, candidates}
use Rattle.gx_plane.proofs.PlaneFacts.{Decides-int_le}
use Rattle.gx_plane.proofs.Candidates.{plane_through-swap, Contains-candidates}
use Rattle.gx_convex.specs.Faces.{is_same_plane, faces_of}
use Rattle.gx_convex.proofs.Distinct.{by_bool, All-from_distinct_by}
use Rattle.gx_convex.proofs.FaceFacts.{Decides-is_same_plane, is_same_plane-same, All-filter, All-from_filter}
use Rattle.gx_faces.specs.Closed.{turn_of, IsEdge, IsJoined, IsClosedAt}
use Rattle.gx_faces.specs.Steps.{is_on, joins, AreMore}

-- ---- faces
-- a candidate that supports the points is a face
in_faces : (points : List V3) (h : HalfSpace) → Contains (candidates points) h → supports h points ≡ true → Contains (faces_of points) h
in_faces points h candidate s =
    All-contains (λ k. supports k points ≡ true → Contains (faces_of points) k) (candidates points) h
    (All-from_filter (Contains (faces_of points)) (λ k. supports k points) (candidates points)
    (All-from_distinct_by is_same_plane is_same_plane-same (Contains (faces_of points)) [] (filter (λ k. supports k points) (candidates points)) (All-nil (Contains (faces_of points))) (All-contains_itself (faces_of points))))
    candidate s

-- what supports the points of the planes through three of them
pub supported : (points : List V3) (a b c : V3) (o : Option HalfSpace) → o ≡ find (λ h. supports h points) (both_ways (plane_through a b c)) → Contains points a → Contains points b → Contains points c
    → IfSome o (Contains (faces_of points))
supported points a b c o is in_a in_b in_c = subst (λ o. IfSome o (Contains (faces_of points))) (sym is) (ways (plane_through a b c) refl)
  where
    ways : (p : Option HalfSpace) → plane_through a b c ≡ p → IfSome (find (λ h. supports h points) (both_ways p)) (Contains (faces_of points))
    ways None e = tt
    ways (Some h) e =
        by_bool (supports h points)
        (λ s. rw s (in_faces points h (Contains-candidates points a b c h in_a in_b in_c e) s))
        (λ n. by_bool (supports (flipped h) points)
        (λ s. rw (n, s) (in_faces points (flipped h) (Contains-candidates points b a c (flipped h) in_b in_a in_c (plane_through-swap a b c ∙ ap (option_map flipped) e)) s))
        (λ m. rw (n, m) tt))

-- ---- points of a plane
pub member : (h : HalfSpace) (points : List V3) (p : V3) → Contains (filter (is_on h) points) p → Contains points p
member h points p within =
    All-contains (Contains points) (filter (is_on h) points) p
    (All-filter (Contains points) (is_on h) points (All-weaker (Contains points) (λ q. is_on h q ≡ true → Contains points q) (λ q c _. c) points (All-contains_itself points))) within

pub on_plane : (h : HalfSpace) (points : List V3) (p : V3) → Contains points p → side_of h p ≡ pos 0 → Contains (filter (is_on h) points) p
on_plane h points p within side =
    All-contains (λ q. is_on h q ≡ true → Contains (filter (is_on h) points) q) points p
    (All-from_filter (Contains (filter (is_on h) points)) (is_on h) points (All-contains_itself (filter (is_on h) points))) within ((Decides-int_eq (side_of h p) (pos 0)).1 side)

pub within_on : (h : HalfSpace) (points : List V3) → All (IsWithin reach) points → All (IsWithin reach) (filter (is_on h) points)
within_on h points all = All-filter (IsWithin reach) (is_on h) points (All-weaker (IsWithin reach) (λ q. is_on h q ≡ true → IsWithin reach q) (λ q w _. w) points all)

-- an edge has all points of the plane at its left
pub left_of_edge : (points : List V3) (h : HalfSpace) (p q : V3) → IsEdge points h p q → list_all (λ r. int_le (pos 0) (turn_of h p q r)) (filter (is_on h) points) ≡ true
left_of_edge points h p q edge =
    all_pass (filter (is_on h) points)
    (All-filter (λ r. int_le (pos 0) (turn_of h p q r) ≡ true) (is_on h) points
    (All-weaker (λ r. side_of h r ≡ pos 0 → pos 0 ≤ℤ turn_of h p q r) (λ r. is_on h r ≡ true → int_le (pos 0) (turn_of h p q r) ≡ true) (λ r left on. (Decides-int_le (pos 0) (turn_of h p q r)).1 (left ((Decides-int_eq (side_of h r) (pos 0)).0 on))) points edge.left))
  where
    all_pass : (rs : List V3) → All (λ r. int_le (pos 0) (turn_of h p q r) ≡ true) rs → list_all (λ r. int_le (pos 0) (turn_of h p q r)) rs ≡ true
    all_pass [] all = refl
    all_pass (r ∷ rs) all =
        both (int_le (pos 0) (turn_of h p q r)) _ (All-head (λ r. int_le (pos 0) (turn_of h p q r) ≡ true) r rs all) (all_pass rs (All-tail (λ r. int_le (pos 0) (turn_of h p q r) ≡ true) r rs all))
      where
        both : (a b : Bool) → a ≡ true → b ≡ true → (a && b) ≡ true
        both a b e f = cc

-- ---- joined edges
pub joined_by : (faces : List HalfSpace) (h : HalfSpace) (p q : V3) (other : HalfSpace) → Contains faces other → joins h p q other ≡ true → IsJoined faces h p q
joined_by faces h p q other is e =
    let (apart, through) = and_parts (not (is_same_plane other h)) (is_on other p && is_on other q) e in
    let (first, second) = and_parts (is_on other p) (is_on other q) through in
    record {
      other = other;
      is_face = is;
      apart = λ same. true≢false (sym ((Decides-is_same_plane other h).1 same) ∙ turned (is_same_plane other h) apart);
      first = (Decides-int_eq (side_of other p) (pos 0)).0 first;
      second = (Decides-int_eq (side_of other q) (pos 0)).0 second;
    }
  where
    turned : (b : Bool) → not b ≡ true → b ≡ false
    turned true e = absurd cc
    turned false e = refl

pub more_joined : (faces more : List HalfSpace) (h : HalfSpace) (p q : V3) → IsJoined faces h p q → IsJoined (faces ++ more) h p q
more_joined faces more h p q is = record { other = is.other; is_face = Contains-append_left faces more is.other is.is_face; apart = is.apart; first = is.first; second = is.second }

pub some_joined : (faces : List HalfSpace) (h : HalfSpace) (p q : V3) → list_any (joins h p q) faces ≡ true → IsJoined faces h p q
some_joined [] h p q e = absurd cc
some_joined (other ∷ faces) h p q e =
    by_bool (joins h p q other)
    (λ t. joined_by (other ∷ faces) h p q other (Contains-head other faces) t)
    (λ n. let rest = some_joined faces h p q (rw n at e) in record { other = rest.other; is_face = Contains-tail other faces rest.other rest.is_face; apart = rest.apart; first = rest.first; second = rest.second })

-- ---- more faces
pub one_more : (points : List V3) (faces : List HalfSpace) (h : HalfSpace) → Contains (faces_of points) h → AreMore points faces (faces ++ h ∷ [])
one_more points faces h is = record { more = h ∷ []; same = refl; each = All-cons (Contains (faces_of points)) h [] is (All-nil (Contains (faces_of points))) }

pub more_and_more : (points : List V3) (a b c : List HalfSpace) → AreMore points a b → AreMore points b c → AreMore points a c
more_and_more points a b c one two = record {
  more = one.more ++ two.more;
  same = two.same ∙ ap (λ (faces : List HalfSpace). faces ++ two.more) one.same ∙ append_assoc a one.more two.more;
  each = All-append (Contains (faces_of points)) one.more two.more one.each two.each;
}

pub joined_after : (points : List V3) (old new : List HalfSpace) (h : HalfSpace) (p q : V3) → AreMore points old new → IsJoined old h p q → IsJoined new h p q
joined_after points old new h p q more is = subst (λ faces. IsJoined faces h p q) (sym more.same) (more_joined old more.more h p q is)

-- ---- faces whose edges are joined
pub all_closed : (points : List V3) (faces : List HalfSpace) (h : HalfSpace) (on : List V3) → on ≡ filter (is_on h) points → All (λ p. All (λ q. IsEdge points h p q → IsJoined faces h p q) on) on → IsClosedAt points faces h
all_closed points faces h on is all p q edge =
    let Q : V3 → V3 → Type 0 = λ p q. IsEdge points h p q → IsJoined faces h p q in
    let first : Contains on p = rw is (on_plane h points p edge.first_in edge.first) in
    let second : Contains on q = rw is (on_plane h points q edge.second_in edge.second) in
    All-contains (Q p) on q (All-contains (λ p. All (Q p) on) on p all first) second edge

-- one face further
pub closed_further : (points : List V3) (old new : List HalfSpace) (i : ℕ) (d : HalfSpace) → AreMore points old new → i < length old → All (IsClosedAt points old) (take i old) → IsClosedAt points new (get_or old i d)
    → All (IsClosedAt points new) (take (i + 1) new)
closed_further points old new i d more less closed this =
    let same : take (i + 1) new ≡ take i old ++ get_or old i d ∷ [] = ap (take (i + 1)) more.same ∙ take-append-le (i + 1) old more.more (omega (arith, less)) ∙ take_more old i d less in
    subst (All (IsClosedAt points new)) (sym same)
    (All-push (IsClosedAt points new) (take i old) (get_or old i d) (All-weaker (IsClosedAt points old) (IsClosedAt points new) (λ h is p q edge. joined_after points old new h p q more (is p q edge)) (take i old) closed) this)

pub faces_further : (points : List V3) (old new : List HalfSpace) → AreMore points old new → All (Contains (faces_of points)) old → All (Contains (faces_of points)) new
faces_further points old new more all = subst (All (Contains (faces_of points))) (sym more.same) (All-append (Contains (faces_of points)) old more.more all more.each)

pub some_of : (faces : List HalfSpace) → 0 < length faces → (h : HalfSpace) × Contains faces h
some_of [] some = absurd (omega (arith, some))
some_of (h ∷ faces) some = (h, Contains-head h faces)
