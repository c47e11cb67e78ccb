-- The texts that the program writes. Each is this project's own.
use Rattle.std.specs.Prelude.{ℕ, List, [], ◌∷◌, ◌++◌, ◌==◌, if◌then◌else◌, codes, decimal, flat_map, slice_get}
use Rattle.std.specs.Option.{option_map, unwrap_or}
use Rattle.std.specs.Fmt.{signed_decimal}
use Rattle.gx_num.specs.declared.vector.V3.{V3}
use Rattle.gx_num.specs.Ray.{RayParameter}
use Rattle.gx_num.specs.Space.{HalfSpace}
use Rattle.gx_num.specs.Vector4.{Vec4}
use Rattle.gx_path.specs.Report.{Row}
use Rattle.gx_table.specs.Faults.{text_of}
use Rattle.gx_gather.specs.declared.fault.TextFault.{TextFault}
use Rattle.gx_tree.specs.declared.instance.Instance.{Instance}
use Rattle.gx_tree.specs.Hierarchy.{Hierarchy, volume_at, instances}
use Rattle.gx_check.specs.declared.counts.Counts.{Counts}
use Rattle.gx_check.specs.declared.verdict.Verdict.{Verdict}
use Rattle.gx_print.specs.declared.summary.Summary.{Summary}
use Rattle.gx_check.specs.declared.verdict.Verdict.TheVariants.{Inner, Outer, Apart, Overlap}

abbrev pub usage_line : List ℕ
usage_line = codes "usage: g4exact (trace | check [--brief] | list) [--grid=EXPR] | sample N\n"

-- `ray n`
abbrev pub ray_head : ℕ → List ℕ
ray_head number = codes "ray " ++ decimal number ++ codes "\n"

-- what follows a numerator: nothing where the denominator is 1, else `/` and the denominator
abbrev pub slash_of : ℕ → List ℕ
slash_of den = if den == 1 then [] else codes "/"

abbrev pub digits_of : ℕ → List ℕ
digits_of den = if den == 1 then [] else decimal den

-- a fraction: `p`, or `p/q`
abbrev pub fraction_text : RayParameter → List ℕ
fraction_text t = decimal t.num ++ slash_of t.den ++ digits_of t.den

-- `fault LINE WORD NAME`
abbrev pub fault_line : TextFault → List ℕ
fault_line fault = codes "fault " ++ decimal fault.line ++ codes " " ++ decimal fault.word ++ codes " " ++ text_of fault.name ++ codes "\n"

-- a text behind what parts it from the one before
unfoldable pub after : List ℕ → List ℕ → List ℕ
after before text = before ++ text

-- ---- verdicts

abbrev pub volume_name : Hierarchy → ℕ → List ℕ
volume_name h v = (volume_at h.volumes v).name

-- a daughter: `NAME@ORDINAL:COPY`
abbrev pub instance_text : Hierarchy → ℕ → Instance → List ℕ
instance_text h k i = volume_name h i.volume ++ after (codes "@") (decimal k) ++ after (codes ":") (signed_decimal i.copy)

-- the one of this ordinal in a mother
unfoldable pub daughter_text : Hierarchy → ℕ → ℕ → List ℕ
daughter_text h mother k = unwrap_or (option_map (instance_text h k) (slice_get (instances h mother) k)) []

-- which volume the daughter of this ordinal is
abbrev pub volume_below : Hierarchy → ℕ → ℕ → ℕ
volume_below h mother k = unwrap_or (option_map (λ (i : Instance). i.volume) (slice_get (instances h mother) k)) 0

-- ordinals from a volume down: ` DAUGHTER` for each
abbrev pub path_text : Hierarchy → ℕ → List ℕ → List ℕ
path_text h v [] = []
path_text h v (k ∷ path) = after (codes " ") (daughter_text h v k) ++ path_text h (volume_below h v k) path

-- a place: the world, and each daughter of a path
unfoldable pub place_text : Hierarchy → List ℕ → List ℕ
place_text h path = volume_name h h.world ++ path_text h h.world path

-- `FROM TO PLACE`
abbrev pub row_text : Hierarchy → Row → List ℕ
row_text h row = fraction_text row.from ++ codes " " ++ fraction_text row.to ++ codes " " ++ place_text h row.path ++ codes "\n"

-- `MOTHER DAUGHTER`
unfoldable pub in_mother : Hierarchy → ℕ → ℕ → List ℕ
in_mother h mother k = volume_name h mother ++ codes " " ++ daughter_text h mother k

-- `MOTHER A B`
unfoldable pub pair_text : Hierarchy → ℕ → ℕ → ℕ → List ℕ
pair_text h mother first second = in_mother h mother first ++ codes " " ++ daughter_text h mother second

-- ` X Y Z`
unfoldable pub vector_text : V3 → List ℕ
vector_text v = after (codes " ") (signed_decimal v.x) ++ after (codes " ") (signed_decimal v.y) ++ after (codes " ") (signed_decimal v.z)

-- ` NX NY NZ E`, the plane n.x = e
unfoldable pub plane_text : HalfSpace → List ℕ
plane_text plane = vector_text plane.n ++ after (codes " ") (signed_decimal plane.e)

-- ` X:Y:Z:W`, the point (X/W, Y/W, Z/W)
unfoldable pub point_text : Vec4 → List ℕ
point_text p = after (codes " ") (signed_decimal p.x) ++ after (codes ":") (signed_decimal p.y) ++ after (codes ":") (signed_decimal p.z) ++ after (codes ":") (signed_decimal p.w)

-- `in MOTHER DAUGHTER`, `out MOTHER DAUGHTER X Y Z`, `apart MOTHER A B NX NY NZ E`, or `overlap MOTHER A B` and each point
abbrev pub verdict_line : Hierarchy → Verdict → List ℕ
verdict_line h (Inner mother k) = codes "in " ++ in_mother h mother k ++ codes "\n"
verdict_line h (Outer mother k point) = codes "out " ++ in_mother h mother k ++ vector_text point ++ codes "\n"
verdict_line h (Apart mother first second plane) = codes "apart " ++ pair_text h mother first second ++ plane_text plane ++ codes "\n"
verdict_line h (Overlap mother first second points) = codes "overlap " ++ pair_text h mother first second ++ flat_map point_text points ++ codes "\n"

-- `checked D daughters P pairs R refuted`
abbrev pub counts_line : Counts → List ℕ
counts_line c = after (codes "checked ") (decimal c.daughters) ++ after (codes " daughters ") (decimal c.pairs) ++ after (codes " pairs ") (decimal c.refuted) ++ codes " refuted\n"

-- what a sample's numbers are: `sample N instances I rays R rows W`
unfoldable pub summary_text : Summary → List ℕ
summary_text s = after (codes "sample ") (decimal s.number) ++ after (codes " instances ") (decimal s.instances) ++ after (codes " rays ") (decimal s.rays) ++ after (codes " rows ") (decimal s.rows)

-- its line
abbrev pub summary_line : Summary → List ℕ
summary_line s = summary_text s ++ codes "\n"
