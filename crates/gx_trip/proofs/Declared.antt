-- What is kept of all that the lines of a text declare: names are words and new, scales and parameters are in lowest terms, and
-- numbers are in their ranges.
use Rattle.std.proofs.Common.{◌≡◌, ℕ, ◌+◌, ◌<◌, ◌≤◌, Bool, true, false, refl, ◌∙◌, ap, subst, arith, if◌then◌else◌, List, [], ◌∷◌, ◌++◌, length, length-append, append-nil, All, Option, None, Some, Result, Ok, Err}
use Rattle.std.specs.Prelude.{nat_le, is_some}
use Rattle.std.proofs.lemmas.Bool.{leb-false}
use Rattle.std.proofs.lemmas.List.Elements.{All-push, filter_map-append}
use Rattle.gx_num.specs.declared.ray.Ray.{Ray}
use Rattle.gx_fraction.specs.Fraction.{Fraction}
use Rattle.gx_form.specs.declared.fault.Fault.{Fault}
use Rattle.gx_text.specs.TextLine.{TextLine}
use Rattle.gx_text.specs.Lines.{ended}
use Rattle.gx_text.specs.declared.lines.LineFault.{LineFault}
use Rattle.gx_expr.specs.Param.{Param, with_param, given, value_of_name}
use Rattle.gx_expr.specs.Quantity.{Quantity, is_same_quantity}
use Rattle.gx_names.specs.Names.{number_of}
use Rattle.gx_rotation.specs.Matrix.{Matrix}
use Rattle.gx_shapes.specs.declared.figure.Figure.{Figure}
use Rattle.gx_shapes.specs.Accepted.{IsSolid}
use Rattle.gx_tree.specs.Hierarchy.{IsRotation}
use Rattle.gx_decl.specs.declared.declaration.Declaration.{Declaration}
use Rattle.gx_decl.specs.declared.declaration.Declaration.TheVariants as line
use Rattle.gx_decl.specs.Decl.{declared_of}
use Rattle.gx_decl.specs.Range.{IsForm, IsTraceable}
use Rattle.gx_gather.specs.declared.item.Item.{Item}
use Rattle.gx_gather.specs.declared.item.Item.TheVariants.{Volume, Place}
use Rattle.gx_gather.specs.declared.item.Shape.{Shape}
use Rattle.gx_gather.specs.declared.item.Shape.TheVariants.{Own, Named}
use Rattle.gx_gather.specs.declared.gathered.TheConstants.{MAX_PARAMS, MAX_SOLIDS, MAX_TURNS, MAX_VOLUMES, MAX_PLACEMENTS}
use Rattle.gx_gather.specs.declared.rays.TheConstants.{MAX_RAYS}
use Rattle.gx_gather.specs.Faults.{on_line}
use Rattle.gx_gather.specs.Items.{name_of, volume_names, placement_count}
use Rattle.gx_gather.specs.Table.{Table, name_fault, entered}
use Rattle.gx_gather.specs.Declarations.{Declarations, with_params, with_volume, with_declaration}
use Rattle.gx_canon.specs.Printable.{IsLowestFraction, AreLowest, HasLowestScales, HasCopy, IsKept, IsNameWord}
use Rattle.gx_canon.specs.Laws.{WordsAreWords, Kept}
use Rattle.gx_reader.specs.Reading.{with_line, read_lines}
use Rattle.gx_trip.proofs.Names.{AreNew, new_push}
use Rattle.gx_trip.proofs.Steps.{steps, otherwise, unless-ok}

pub record IsFigureKept (f : Figure) : Type 0 where
  pub solid : IsSolid f
  pub scales : HasLowestScales f

abbrev pub IsShapeKept : Shape → Type 0
IsShapeKept (Own figure) = IsFigureKept figure
IsShapeKept (Named name) = Unit {0}

abbrev pub IsItemKept : Item → Type 0
IsItemKept (Volume line name shape material) = IsNameWord name × IsShapeKept shape × IsNameWord material
IsItemKept (Place line volume mother rotation form) = IsForm form × HasCopy form

pub record AreItemsKept (items : List Item) : Type 0 where
  pub each : All IsItemKept items
  pub names : AreNew [] (volume_names items)
  pub few : length (volume_names items) ≤ MAX_VOLUMES

pub record AreRaysKept (rays : List Ray) : Type 0 where
  pub each : All IsTraceable rays
  pub few : length rays ≤ MAX_RAYS

pub record AreKept (d : Declarations) : Type 0 where
  pub params : AreLowest d.params
  pub solids : All IsFigureKept d.solids.values
  pub turns : All IsRotation d.turns.values
  pub items : AreItemsKept d.items
  pub rays : AreRaysKept d.rays

-- ---- parameters

given_lowest : (params new : List Param) (name : List ℕ) (value : Quantity) (before : Option Quantity) → AreLowest params → IsLowestFraction value.number → given params name value before ≡ Some new → AreLowest new
given_lowest params new name value None are low e =
    let same : params ++ record { name = name; value = value } ∷ [] ≡ new = cc in
    subst AreLowest same (All-push (λ (p : Param). IsLowestFraction p.value.number) params (record { name = name; value = value }) are low)
given_lowest params new name value (Some before) are low e =
    let step : (b : Bool) → (if b then Some params else None) ≡ Some new → AreLowest new = λ b. elim b as (λ b. (if b then Some params else None) ≡ Some new → AreLowest new) [
      | true ↦ λ is. let same : params ≡ new = cc in subst AreLowest same are
      | false ↦ λ is. absurd cc
    ] in
    step (is_same_quantity before value) e

-- ---- names

passed : {X : Type 0} (c : Bool) (x : X) (o : Option X) → (if c then Some x else o) ≡ None → (c ≡ false) × (o ≡ None)
passed true x o e = absurd cc
passed false x o e = (refl, e)

nothing : (o : Option ℕ) → is_some o ≡ false → o ≡ None
nothing None e = refl
nothing (Some n) e = absurd cc

name_fault-none : (most : ℕ) (names : List (List ℕ)) (name : List ℕ) → name_fault most names name ≡ None → (number_of names name ≡ None) × (length names < most)
name_fault-none most names name e =
    let new = passed (is_some (number_of names name)) _ _ e in
    let few = passed (nat_le most (length names)) _ None new.1 in
    (nothing (number_of names name) new.0, leb-false most (length names) few.0)

entered-kept : {A : Type 0} (P : A → Type 0) (most : ℕ) (t new : Table A) (name : List ℕ) (value : A) → All P t.values → P value → entered most t name value ≡ Ok new → All P new.values
entered-kept P most t new name value all here e =
    let same = (unless-ok (name_fault most t.names name) _ new e).1 in
    subst (λ (s : Table _). All P s.values) same (All-push P t.values value all here)

-- ---- volumes

one_volume : (d e : Declarations) (number : ℕ) (name : List ℕ) (shape : Shape) (material : List ℕ) → AreKept d → IsNameWord name → IsShapeKept shape → IsNameWord material → with_volume d number name shape material ≡ Ok e → AreKept e
one_volume d e number name shape material are named shaped made_of is =
    let item = Volume number name shape material in
    let none = unless-ok (name_fault MAX_VOLUMES (volume_names d.items) name) _ e is in
    let new = name_fault-none MAX_VOLUMES (volume_names d.items) name none.0 in
    let names : volume_names (d.items ++ item ∷ []) ≡ volume_names d.items ++ name ∷ [] = filter_map-append name_of d.items (item ∷ []) in
    let items : AreItemsKept (d.items ++ item ∷ []) = record {
      each = All-push IsItemKept d.items item are.items.each (named, shaped, made_of);
      names = rw names (new_push [] (volume_names d.items) name are.items.names new.0);
      few = rw names (omega (arith, new.1, length-append (volume_names d.items) (name ∷ [])));
    } in
    subst AreKept none.1 (record { params = are.params; solids = are.solids; turns = are.turns; items = items; rays = are.rays })

-- ---- one line more

module _ (d e : Declarations) (number : ℕ) (are : AreKept d) where
  with_kept : (x : Declaration) → IsKept x → with_declaration d number x ≡ Ok e → AreKept e
  with_kept (line.Param name value) kept is = param_kept (with_param d.params name value) refl is
    where
      param_kept : (o : Option (List Param)) → with_param d.params name value ≡ o → with_params d o ≡ Ok e → AreKept e
      param_kept None at is = absurd cc
      param_kept (Some params) at is =
          let same : record d { params = params; param_lines = d.param_lines + 1 } ≡ e = (let free = (otherwise (nat_le MAX_PARAMS d.param_lines) _ _ e is).1 in cc) in
          subst AreKept same (record { params = given_lowest d.params params name value (value_of_name d.params name) are.params kept.1 at; solids = are.solids; turns = are.turns; items = are.items; rays = are.rays })
  with_kept (line.Solid name figure) kept is =
      let s = steps (entered MAX_SOLIDS d.solids name figure) (λ (solids : Table Figure). Ok (record d { solids = solids })) e is in
      let same : record d { solids = s.first } ≡ e = (let made = s.rest in cc) in
      subst AreKept same (record { params = are.params; solids = entered-kept IsFigureKept MAX_SOLIDS d.solids s.first name figure are.solids (record { solid = kept.0.1; scales = kept.1 }) s.is; turns = are.turns; items = are.items; rays = are.rays })
  with_kept (line.Volume name figure material) kept is =
      one_volume d e number name (Own figure) material are (record { named = kept.0.0; word = kept.1.0 }) (record { solid = kept.0.1; scales = kept.1.1 }) (record { named = kept.0.2; word = kept.1.2 }) is
  with_kept (line.Named name solid material) kept is =
      one_volume d e number name (Named solid) material are (record { named = kept.0.0; word = kept.1.0 }) tt (record { named = kept.0.2; word = kept.1.1 }) is
  with_kept (line.Place volume mother rotation form) kept is =
      let item = Place number volume mother rotation form in
      let same : record d { items = d.items ++ item ∷ [] } ≡ e = (let free = (otherwise (nat_le MAX_PLACEMENTS (placement_count d.items)) _ _ e is).1 in cc) in
      let names : volume_names (d.items ++ item ∷ []) ≡ volume_names d.items = filter_map-append name_of d.items (item ∷ []) ∙ append-nil (volume_names d.items) in
      let items : AreItemsKept (d.items ++ item ∷ []) = record { each = All-push IsItemKept d.items item are.items.each (kept.0.formed, kept.1); names = rw names are.items.names; few = rw names are.items.few } in
      subst AreKept same (record { params = are.params; solids = are.solids; turns = are.turns; items = items; rays = are.rays })
  with_kept (line.Turn name matrix) kept is =
      let s = steps (entered MAX_TURNS d.turns name matrix) (λ (turns : Table Matrix). Ok (record d { turns = turns })) e is in
      let same : record d { turns = s.first } ≡ e = (let made = s.rest in cc) in
      subst AreKept same (record { params = are.params; solids = are.solids; turns = entered-kept IsRotation MAX_TURNS d.turns s.first name matrix are.turns kept.0.1 s.is; items = are.items; rays = are.rays })
  with_kept (line.Trace ray) kept is =
      let free = otherwise (nat_le MAX_RAYS (length d.rays)) _ _ e is in
      let same : record d { rays = d.rays ++ ray ∷ [] } ≡ e = (let made = free.1 in cc) in
      let rays : AreRaysKept (d.rays ++ ray ∷ []) = record { each = All-push IsTraceable d.rays ray are.rays.each kept.0; few = omega (arith, leb-false MAX_RAYS (length d.rays) free.0, length-append d.rays (ray ∷ [])) } in
      subst AreKept same (record { params = are.params; solids = are.solids; turns = are.turns; items = are.items; rays = rays })
  with_kept line.Passed kept is = let same : d ≡ e = cc in subst AreKept same are

-- ---- all lines

on_line-ok : {A : Type 0} (number : ℕ) (r : Result A Fault) (a : A) → on_line number r ≡ Ok a → r ≡ Ok a
on_line-ok number (Ok b) a e = let same : b ≡ a = cc in ap (λ x. Ok x) same
on_line-ok number (Err fault) a e = absurd cc

module _ (kept : Kept) (words : WordsAreWords) (grid : Fraction) where
  line_kept : (d e : Declarations) (number : ℕ) (bytes : List ℕ) (r : Result (Option TextLine) LineFault) → AreKept d → ended number bytes ≡ r → with_line grid d r ≡ Ok e → AreKept e
  line_kept d e number bytes (Err fault) are read is = absurd cc
  line_kept d e number bytes (Ok None) are read is = let same : d ≡ e = cc in subst AreKept same are
  line_kept d e number bytes (Ok (Some line)) are read is =
      let s = steps (declared_of d.params grid line.words) (with_declaration d line.number) e (on_line-ok line.number _ e is) in
      with_kept d e line.number are s.first (kept d.params grid line.words s.first are.params (words number bytes line read) s.is) s.rest

  pub lines_kept : (d e : Declarations) (number : ℕ) (lines : List (List ℕ)) → AreKept d → read_lines grid d number lines ≡ Ok e → AreKept e
  lines_kept d e number [] are is = let same : d ≡ e = cc in subst AreKept same are
  lines_kept d e number (line ∷ lines) are is =
      let s = steps (with_line grid d (ended number line)) (λ (next : Declarations). read_lines grid next (number + 1) lines) e is in
      lines_kept s.first e (number + 1) lines (line_kept d s.first number line (ended number line) are refl s.is) s.rest
