-- From what the code does, run after run, to a descent.
use Rattle.std.proofs.Common.{◌≡◌, ◌⊎◌, ℕ, zero, suc, ◌+◌, ◌-◌, ◌<◌, ◌≤◌, inl, inr, refl, sym, ap, subst, ◌∙◌, arith, add-one, ◌^◌, ℤ, unsigned_abs, true, false, List, [], ◌∷◌, ◌++◌, length, get_or}
use Rattle.std.specs.List.{All}
use Rattle.std.proofs.lemmas.Bool.{cases_lt}
use Rattle.gx_num.specs.Ray.{RayParameter}
use Rattle.gx_num.specs.declared.extent.Extent.{Extent}
use Rattle.gx_num.specs.declared.ray.Ray.{Ray}
use Rattle.gx_offers.specs.Offers.{Offered, IsOffered}
use Rattle.gx_boxes.specs.Boxes.{IsMet}
use Rattle.gx_voxel.specs.Cut.{coordinate}
use Rattle.gx_voxel.specs.Cells.{without}
use Rattle.gx_voxel.specs.Members.{Held, AreKept}
use Rattle.gx_voxel.specs.Proxy.{content_of, axis_of, list_of, low_of, high_of, proxy_of, StandsWithin}
use Rattle.gx_voxel.specs.declared.proxy.Proxy.{Proxy}
use Rattle.gx_voxel.specs.declared.proxy.Header.{Header}
use Rattle.gx_voxel.specs.declared.proxy.Run.{Run}
use Rattle.gx_along.specs.Along.{index_of, left_of, is_entered_at, part_at}
use Rattle.gx_along.specs.Digits.{digits}
use Rattle.gx_along.specs.Line.{Seen, time, is_left, is_entered, part_of, IsStretch}
use Rattle.gx_along.specs.Runs.{IsRising, HasRuns, is_before, low_at, high_at}
use Rattle.gx_along.specs.Walked.{walked, Walks}
use Rattle.gx_along.specs.declared.line.Stretch.{Stretch}
use Rattle.gx_along.proofs.Ahead.{ahead}
use Rattle.gx_along.proofs.Before.{read}
use Rattle.gx_along.proofs.Stretches.{part-is-part}
use Rattle.gx_descend.specs.Crossed.{Descends, StandsWithinSome, GoesInto, Crosses}
use Rattle.gx_descend.proofs.Placed.{header-of, run_at, all-among, count, run-stands, run-proper}
use Rattle.gx_descend.proofs.Gone.{node-of, header-descends}

-- ---- a proxy that stands for some members
pub node-below : (n room : ℕ) (p : Proxy) (held : Held) → StandsWithinSome n room p → content_of p ≡ inl held → All (λ k. k < room) held.numbers
node-below n room p held (at, ks, axes, proper, below, stands) is = subst (All (λ k. k < room)) (sym (node-of at p held is n ks axes stands).0.0) below

-- the offers of its members keep the room
pub node-room : (n room : ℕ) (p : Proxy) (held : Held) (ray : Ray) (old new : Offered) → StandsWithinSome n room p → content_of p ≡ inl held → ((at : ℕ → Extent) → AreKept at held → IsOffered (λ k. IsMet (at k) ray) held.numbers old new) → new.room ≡ old.room
node-room n room p held ray old new (at, ks, axes, proper, below, stands) is offers = (offers at (node-of at p held is n ks axes stands).0.1).room

last-node : (room : ℕ) (p : Proxy) (h : Header) → StandsWithinSome 0 room p → content_of p ≡ inr h → ⊥
unfolding StandsWithin
last-node room p h (at, ks, axes, proper, below, stands) is = absurd (cc (stands.is, is))

-- its header
pub record IsSound (n room : ℕ) (h : Header) : Type 0 where
  pub rising : IsRising h
  pub has : HasRuns h
  pub deeper : (i : ℕ) (run : Run) → i < length (list_of h) → run ≡ get_or (list_of h) i run → StandsWithinSome n room (proxy_of run)

pub not-last : (n room : ℕ) (p : Proxy) (h : Header) → StandsWithinSome n room p → content_of p ≡ inr h → n ≡ 0 → ⊥
not-last n room p h some is e = last-node room p h (subst (λ m. StandsWithinSome m room p) e some) is

pub sound : (n room : ℕ) (p : Proxy) (h : Header) → StandsWithinSome n room p → content_of p ≡ inr h → IsSound (n - 1) room h
sound zero room p h some is = absurd (last-node room p h some is)
sound (suc n) room p h (at, ks, axes, proper, below, stands) is =
    let w = header-of at n p h ks axes proper stands is in
    let s : IsSound n room h = record {
      rising = w.1.rising;
      has = w.1.has;
      deeper = λ i run less e.
          let members = (run_at w.0 i).members in (
            at,
            members,
            without w.0.axis axes,
            run-proper at n h ks axes w.0 w.1 proper i less,
            all-among (λ k. k < room) ks members below (w.1.among i (omega (arith, less, count at n h ks axes w.0 w.1))),
            run-stands at n h ks axes w.0 w.1 i run less e,
          );
    } in
    subst (λ m. IsSound m room h) (omega arith) s

-- ---- a run of a header, read at its place
module _ (h : Header) (i : ℕ) (run : Run) (less : i < length (list_of h)) (is : run ≡ get_or (list_of h) i run) where
  low : low_of run ≡ low_at h i
  low = read low_of (list_of h) i run less is

  high : high_of run ≡ high_at h i
  high = read high_of (list_of h) i run less is

  pub small : IsRising h → (unsigned_abs (low_of run) ≤ 2 ^ 31) × (unsigned_abs (high_of run) ≤ 2 ^ 31)
  small rising = (subst (λ z. unsigned_abs z ≤ 2 ^ 31) (sym low) (rising.low i), subst (λ z. unsigned_abs z ≤ 2 ^ 31) (sym high) (rising.high i))

  pub entered-is : (o d : ℤ) (t : RayParameter) → is_entered_at o d h t i ≡ is_entered o d (low_of run) (high_of run) t
  entered-is o d t = λ k. is_entered o d (sym low k) (sym high k) t

  pub part-is : (o d : ℤ) (s : Stretch) → part_of o d (low_of run) (high_of run) s ≡ part_at o d h s i
  part-is o d s = λ k. part_of o d (low k) (high k) s

-- ---- run after run
pub every-more : (P : ℕ → Type 0) (j : ℕ) → ((m : ℕ) → m < j → P m) → P j → (m : ℕ) → m < j + 1 → P m
every-more P j all one m less = elim (cases_lt m j) [
  | inl l ↦ all m l
  | inr l ↦ let e : j ≡ m = omega (arith, less, l) in subst P e one
]

goes-more : (n : ℕ) (ray : Ray) (h : Header) (seen : List Seen) (old mid new : Offered) (before r after : ℕ) (one : Seen) (run : Run) → GoesInto n ray h seen old mid before r → one.index < length (list_of h) → run ≡ get_or (list_of h) one.index run
    → Descends n ray one.part (proxy_of run) mid new (r + 1) after → GoesInto n ray h (seen ++ one ∷ []) old new before after
goes-more n ray h [] old mid new before r after one run goes less is deep =
    (run, new, after, less, is, subst (λ o. Descends n ray one.part (proxy_of run) o new (before + 1) after) goes.0 (subst (λ c. Descends n ray one.part (proxy_of run) mid new (c + 1) after) goes.1 deep), (refl, refl))
goes-more n ray h (x ∷ seen) old mid new before r after one run (run', mid', r', less', is', deep', goes) less is deep =
    (run', mid', r', less', is', deep', goes-more n ray h seen mid' mid new r' r after one run goes less is deep)

module _ (o d : ℤ) (h : Header) (s : Stretch) (start : ℕ) (bound : start ≤ length (list_of h)) (first : (i : ℕ) → i < start → is_before o d h (time s.from) i ≡ true)
    (rest : (i : ℕ) → start ≤ i → i < length (list_of h) → is_before o d h (time s.from) i ≡ false) where
  -- the part handed on is a stretch
  pub part-stretch : IsStretch s → HasRuns h → (j i : ℕ) → j < left_of d (length (list_of h)) start → i ≡ index_of d start j → is_entered_at o d h (time s.to) i ≡ true → IsStretch (part_at o d h s i)
  part-stretch ok has j i less e entered =
      let a = ahead o d h (time s.from) start bound first rest j less in
      let here = subst (λ k. (k < length (list_of h)) × (is_left o d (low_at h k) (high_at h k) (time s.from) ≡ false)) (sym e) a in
      (part-is-part o d (low_at h i) (high_at h i) s ok (has i here.0) here.1 entered).stretch

  -- one run more
  pub more-seen : (n : ℕ) (ray : Ray) (j i : ℕ) (old mid new : Offered) (found r now after : ℕ) (run : Run) (part : Stretch) (p : Proxy) → GoesInto n ray h (walked o d h s start j) old mid found r → i ≡ index_of d start j → i < length (list_of h)
      → run ≡ get_or (list_of h) i run → part ≡ part_at o d h s i → p ≡ proxy_of run → now ≡ r + 1 → Descends n ray part p mid new now after → GoesInto n ray h (walked o d h s start (j + 1)) old new found after
  more-seen n ray j i old mid new found r now after run part p goes e less is f g c deep =
      let k = index_of d start j in
      let one : Seen = record { index = k; part = part_at o d h s k } in
      let same : part ≡ part_at o d h s k = f ∙ ap (part_at o d h s) e in
      let deep' : Descends n ray (part_at o d h s k) (proxy_of run) mid new (r + 1) after =
      subst (λ x. Descends n ray x (proxy_of run) mid new (r + 1) after) same (subst (λ x. Descends n ray part x mid new (r + 1) after) g (subst (λ x. Descends n ray part p mid new x after) c deep)) in
      let step : GoesInto n ray h (walked o d h s start (suc j)) old new found after =
      goes-more n ray h (walked o d h s start j) old mid new found r after one run goes (subst (λ m. m < length (list_of h)) e less) (subst (λ m. run ≡ get_or (list_of h) m run) e is) deep' in
      subst (λ m. GoesInto n ray h (walked o d h s start m) old new found after) (sym (add-one j)) step

  -- all along the header
  pub crossed : (n : ℕ) (ray : Ray) (p : Proxy) (j : ℕ) (old new : Offered) (before found last after : ℕ) → IsStretch s → content_of p ≡ inr h → (n ≡ 0 → ⊥) → o ≡ coordinate (axis_of h) ray.o → d ≡ coordinate (axis_of h) ray.d
      → found ≤ before + digits (length (list_of h)) → (0 < length (list_of h) → before < found) → GoesInto (n - 1) ray h (walked o d h s start j) old new found last → last ≤ after → after ≤ last + 1
      → ((m : ℕ) → m < j → is_entered_at o d h (time s.to) (index_of d start m) ≡ true) → j ≤ left_of d (length (list_of h)) start → (j ≡ left_of d (length (list_of h)) start) ⊎ (is_entered_at o d h (time s.to) (index_of d start j) ≡ false)
      → Descends n ray s p old new before after
  crossed n ray p j old new before found last after ok is some on dn search least goes close most entered within done =
      let w : Walks o d h s (walked o d h s start j) = record { start = start; steps = j; bound = bound; first = first; rest = rest; within = within; all = refl; entered = entered; done = done } in
      let c : Crosses (n - 1) ray s h old new before after = record {
        seen = walked o d h s start j;
        found = found;
        last = last;
        walks = subst (λ y. Walks (coordinate (axis_of h) ray.o) y h s (walked o d h s start j)) dn (subst (λ x. Walks x d h s (walked o d h s start j)) on w);
        search = search;
        some = least;
        goes = goes;
        close = close;
        most = most;
      } in
      go n some c
    where
      go : (n : ℕ) → (n ≡ 0 → ⊥) → Crosses (n - 1) ray s h old new before after → Descends n ray s p old new before after
      go zero some c = absurd (some refl)
      go (suc n) some c = header-descends n ray s p h old new before after ok is (subst (λ m. Crosses m ray s h old new before after) (omega arith) c)
