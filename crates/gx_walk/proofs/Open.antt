-- The open rows of a volume's pieces are its rows without marks.
use Rattle.std.proofs.Common.{◌≡◌, ℕ, zero, suc, refl, sym, ap, ◌∙◌, arith, Bool, true, false, List, [], ◌∷◌, ◌++◌, map}
use Rattle.std.specs.Prelude.{if◌then◌else◌}
use Rattle.gx_num.specs.Ray.{RayParameter}
use Rattle.gx_path.specs.Report.{Row}
use Rattle.gx_partition.specs.Partition.{Piece, is_below, open_rows}
use Rattle.gx_partition.specs.Walk.{Hit, has_room, gap, under, walk, pieces_of}
use Rattle.gx_walk.specs.declared.met.Frame.{Frame}
use Rattle.gx_walk.specs.Giving.{between, within, rows_from, rows_of}

open-append : (xs ys : List Piece) → open_rows (xs ++ ys) ≡ open_rows xs ++ open_rows ys
open-append [] ys = refl
open-append (p ∷ xs) ys = go (is_below p.from p.to) (open-append xs ys)
  where
    row : Row
    row = record { from = p.from; to = p.to; path = p.path }

    go : (b : Bool) → open_rows (xs ++ ys) ≡ open_rows xs ++ open_rows ys
        → (if b then record { from = p.from; to = p.to; path = p.path } ∷ open_rows (xs ++ ys) else open_rows (xs ++ ys)) ≡ (if b then record { from = p.from; to = p.to; path = p.path } ∷ open_rows xs else open_rows xs) ++ open_rows ys
    go true e = ap (λ l. record { from = p.from; to = p.to; path = p.path } ∷ l) e
    go false e = e

open-under : (k : ℕ) (ps : List Piece) → open_rows (map (under k) ps) ≡ map (within k) (open_rows ps)
open-under k [] = refl
open-under k (p ∷ ps) = go (is_below p.from p.to) (open-under k ps)
  where
    go : (b : Bool) → open_rows (map (under k) ps) ≡ map (within k) (open_rows ps)
        → (if b then record { from = p.from; to = p.to; path = k ∷ p.path } ∷ open_rows (map (under k) ps) else open_rows (map (under k) ps)) ≡ map (within k) (if b then record { from = p.from; to = p.to; path = p.path } ∷ open_rows ps else open_rows ps)
    go true e = ap (λ l. record { from = p.from; to = p.to; path = k ∷ p.path } ∷ l) e
    go false e = e

roomy : (s : RayParameter) (m : Bool) (t : RayParameter) (n : Bool) → is_below s t ≡ true → has_room s m t n ≡ true
roomy s true t true e = grind (arith, e)
roomy s true t false e = e
roomy s false t true e = e
roomy s false t false e = e

open-gap : (s : RayParameter) (m : Bool) (t : RayParameter) (n : Bool) → open_rows (gap s m t n) ≡ between s t
open-gap s m t n = go (is_below s t) refl (has_room s m t n) refl
  where
    row : Row
    row = record { from = s; to = t; path = [] }

    go : (b : Bool) → is_below s t ≡ b → (r : Bool) → has_room s m t n ≡ r
        → open_rows (if r then record { from = s; from_in = m; to = t; to_in = n; path = [] } ∷ [] else []) ≡ between s t
    go true e true f = refl
    go true e false f = absurd (let g : true ≡ false = sym (roomy s m t n e) ∙ f in cc)
    go false e true f = refl
    go false e false f = sym (ap (λ b. if b then record { from = s; to = t; path = [] } ∷ [] else []) e)

open-walk : (pieces : Hit Frame → List Piece) (rows : Hit Frame → List Row) → ((h : Hit Frame) → open_rows (pieces h) ≡ rows h)
    → (s : RayParameter) (m : Bool) (to : RayParameter) (hits : List (Hit Frame)) → open_rows (walk pieces s m to hits) ≡ rows_from rows s to hits
open-walk pieces rows each s m to [] = open-gap s m to false
open-walk pieces rows each s m to (h ∷ hits) =
    let inner = map (under h.ordinal) (pieces h) in
    let rest = walk pieces h.to true to hits in
    open-append (gap s m h.from true) (inner ++ rest)
    ∙ ap (λ l. l ++ open_rows (inner ++ rest)) (open-gap s m h.from true)
    ∙ ap (λ l. between s h.from ++ l) (
    open-append inner rest
    ∙ ap (λ l. l ++ open_rows rest) (open-under h.ordinal (pieces h) ∙ ap (map (within h.ordinal)) (each h))
    ∙ ap (λ l. map (within h.ordinal) (rows h) ++ l) (open-walk pieces rows each h.to true to hits)
    )

pub open-pieces : (hits : Frame → List (Hit Frame)) (n : ℕ) (from to : RayParameter) (d : Frame) → open_rows (pieces_of hits n from to d) ≡ rows_of hits n from to d
open-pieces hits zero from to d = open-gap from false to false
open-pieces hits (suc n) from to d =
    open-walk (λ h. pieces_of hits n h.from h.to h.daughter) (λ h. rows_of hits n h.from h.to h.daughter) (λ h. open-pieces hits n h.from h.to h.daughter) from false to (hits d)
