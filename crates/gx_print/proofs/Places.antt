-- Paths, written daughter by daughter.
use Rattle.std.proofs.Common.{◌≡◌, ℕ, ◌+◌, ◌<◌, ◌≤◌, Bool, true, false, IsTrue, List, [], ◌∷◌, ◌++◌, length, drop, Option, refl, sym, ap, ◌∙◌, subst, append_assoc, append-nil, arith}
use Rattle.std.specs.Prelude.{◌&&◌, nat_lt, slice_index, codes}
use Rattle.std.proofs.lemmas.Bool.Decides.{nat_tests}
use Rattle.std.proofs.lemmas.List.{drop_more, drop_all}
use Rattle.gx_io.specs.Bytes.{with_after, AppendsFront}
use Rattle.gx_io.proofs.Joined.{with_after-twice, with_after-nothing, front-of_first, front-of_second}
use Rattle.gx_tree.specs.Hierarchy.{Hierarchy, instances}
use Rattle.gx_print.specs.Range.{has_daughter, is_path}
use Rattle.gx_print.specs.Texts.{after, daughter_text, path_text, volume_below}

-- so many of a path's daughters were written, down to a volume
pub record IsWrittenTo (h : Hierarchy) (path : List ℕ) (i v : ℕ) (old new : Option (List ℕ)) : Type 0 where
  pub written : List ℕ
  pub is : new ≡ with_after old written
  pub rest : path_text h h.world path ≡ written ++ path_text h v (drop i path)
  pub leads : IsTrue (is_path h v (drop i path))

first : (a b : Bool) → IsTrue (a && b) → IsTrue a
first true b t = cc
first false b t = absurd cc

second : (a b : Bool) → IsTrue (a && b) → IsTrue b
second true b t = t
second false b t = absurd cc

-- the next daughter is one
pub record IsNext (h : Hierarchy) (path : List ℕ) (i v k : ℕ) : Type 0 where
  pub volume : v < length h.volumes
  pub ordinal : k < length (instances h v)
  pub leads : IsTrue (is_path h (volume_below h v k) (drop (i + 1) path))

next_in : (h : Hierarchy) (path : List ℕ) (i v k : ℕ) → IsTrue (is_path h v (k ∷ drop (i + 1) path)) → IsNext h path i v k
next_in h path i v k leads =
    let has : IsTrue (has_daughter h v k) = first (has_daughter h v k) (is_path h (volume_below h v k) (drop (i + 1) path)) leads in
    let volume : IsTrue (nat_lt v (length h.volumes)) = first (nat_lt v (length h.volumes)) (nat_lt k (length (instances h v))) has in
    let ordinal : IsTrue (nat_lt k (length (instances h v))) = second (nat_lt v (length h.volumes)) (nat_lt k (length (instances h v))) has in
    record {
      volume = grind (arith, nat_tests, volume);
      ordinal = grind (arith, nat_tests, ordinal);
      leads = second (has_daughter h v k) (is_path h (volume_below h v k) (drop (i + 1) path)) leads;
    }

pub next_of : (h : Hierarchy) (path : List ℕ) (i v : ℕ) (old new : Option (List ℕ)) → i < length path → IsWrittenTo h path i v old new → IsNext h path i v (slice_index path i)
next_of h path i v old new below so_far = next_in h path i v (slice_index path i) (subst (λ l. IsTrue (is_path h v l)) (drop_more path i 0 below) so_far.leads)

pub written_none : (h : Hierarchy) (path : List ℕ) (old : Option (List ℕ)) → IsTrue (is_path h h.world path) → IsWrittenTo h path 0 h.world old old
written_none h path old leads = record { written = []; is = sym (with_after-nothing old); rest = refl; leads = leads }

rest_of : (h : Hierarchy) (path : List ℕ) (i v : ℕ) (written : List ℕ) → i < length path → path_text h h.world path ≡ written ++ path_text h v (drop i path)
    → path_text h h.world path ≡ (written ++ after (codes " ") (daughter_text h v (slice_index path i))) ++ path_text h (volume_below h v (slice_index path i)) (drop (i + 1) path)
rest_of h path i v written below e =
    e ∙ ap (λ l. written ++ path_text h v l) (drop_more path i 0 below)
    ∙ sym (append_assoc written (after (codes " ") (daughter_text h v (slice_index path i))) (path_text h (volume_below h v (slice_index path i)) (drop (i + 1) path)))

pub written_more : (h : Hierarchy) (path : List ℕ) (i v : ℕ) (old mid new : Option (List ℕ)) → i < length path → IsWrittenTo h path i v old mid → new ≡ with_after mid (after (codes " ") (daughter_text h v (slice_index path i)))
    → IsWrittenTo h path (i + 1) (volume_below h v (slice_index path i)) old new
written_more h path i v old mid new below so_far more =
    let daughter = after (codes " ") (daughter_text h v (slice_index path i)) in
    record {
      written = so_far.written ++ daughter;
      is = more ∙ ap (λ t. with_after t daughter) so_far.is ∙ with_after-twice old so_far.written daughter;
      rest = rest_of h path i v so_far.written below so_far.rest;
      leads = (next_of h path i v old mid below so_far).leads;
    }

pub written_front : (h : Hierarchy) (path : List ℕ) (i v : ℕ) (old mid new : Option (List ℕ)) → i < length path → IsWrittenTo h path i v old mid → AppendsFront mid new (after (codes " ") (daughter_text h v (slice_index path i)))
    → AppendsFront old new (path_text h h.world path)
written_front h path i v old mid new below so_far stopped =
    let daughter = after (codes " ") (daughter_text h v (slice_index path i)) in
    subst (AppendsFront old new) (sym (rest_of h path i v so_far.written below so_far.rest))
    (front-of_first old new (so_far.written ++ daughter) (path_text h (volume_below h v (slice_index path i)) (drop (i + 1) path))
    (front-of_second old new so_far.written daughter (subst (λ t. AppendsFront t new daughter) so_far.is stopped)))

pub written_whole : (h : Hierarchy) (path : List ℕ) (i v : ℕ) (old new : Option (List ℕ)) → length path ≤ i → IsWrittenTo h path i v old new → new ≡ with_after old (path_text h h.world path)
written_whole h path i v old new done so_far =
    so_far.is ∙ ap (with_after old) (sym (so_far.rest ∙ ap (λ l. so_far.written ++ path_text h v l) (drop_all i path done) ∙ append-nil so_far.written))
