-- The thirteen operations in a table, as a data sheet has them, and what that table says of a start: the grounds on which it is
-- declined, and what is drawn where it is accepted. Of the definitions that the code answers by none is used here but the records.
use Rattle.std.specs.Prelude.{◌≡◌, ◌≢◌, ℕ, Bool, true, false, ◌<◌, ◌≤◌, ◌⊎◌, List, [], ◌∷◌, Contains}
use Rattle.formats.specs.declared.Depth.{Depth}
use Rattle.formats.specs.declared.Depth.TheVariants.{Rgb332, Rgb565, Rgb888}
use Rattle.formats.specs.declared.OverlayKind.{OverlayKind}
use Rattle.formats.specs.declared.OverlayKind.TheVariants.{Index26, Argb4444}
use Rattle.rules.specs.declared.chosen.Rule.{Rule}
use Rattle.rules.specs.declared.chosen.Rule.TheVariants as rule
use Rattle.window.specs.declared.area.Area.{Area}
use Rattle.window.specs.Limits.{Within}
use Rattle.window.specs.Geometry.{PixelByte, BytePast}
use Rattle.source.specs.Rows.{Rows}
use Rattle.source.specs.Origins.{Origin}
use Rattle.source.specs.Origins as origin
use Rattle.source.specs.Pictures.{UnitByte}
use Rattle.engine.specs.Inside.{OpByte}
use Rattle.job.specs.declared.settings.Settings.{Settings}
use Rattle.job.specs.declared.settings.Surface.{Surface}
use Rattle.job.specs.Plans.{Plan, op_at}
use Rattle.job.specs.Works.{Work, Clearing, cleared, declined}

-- where S0 comes from
pub data Supply : Type 0 where
  nothing : Supply
  host_pixels : Supply
  window : Supply
  pattern : Supply
  host_bits : Supply
  memory_bits : Supply

-- what is done with the values of a pixel
pub data Action : Type 0 where
  raster : Action
  key : Action
  expansion : Action
  expansion_over : Action
  blend : Action
  fill : Action

-- a row of the table: the code, S0 and what is done, the depths that S0 may have and the kinds that S1 may have, none where the
-- operation does not use it
pub record Row : Type 0 where
  pub code : ℕ
  pub supply : Supply
  pub action : Action
  pub depths : List ℕ
  pub kinds : List ℕ

abbrev pub row : ℕ → Supply → Action → List ℕ → List ℕ → Row
row n s a ds ks = record { code = n; supply = s; action = a; depths = ds; kinds = ks }

abbrev pub pixel_depths : List ℕ
pixel_depths = 0 ∷ 1 ∷ 2 ∷ 3 ∷ []

abbrev pub bit_depths : List ℕ
bit_depths = 0 ∷ 1 ∷ []

abbrev pub pixel_kinds : List ℕ
pixel_kinds = 0 ∷ 1 ∷ 2 ∷ []

abbrev pub all_kinds : List ℕ
all_kinds = 0 ∷ 1 ∷ 2 ∷ 4 ∷ 5 ∷ []

abbrev pub operations : List Row
operations =
    row 0 host_pixels raster pixel_depths pixel_kinds
    ∷ row 2 window raster pixel_depths pixel_kinds
    ∷ row 4 host_pixels key pixel_depths []
    ∷ row 5 window key pixel_depths []
    ∷ row 6 pattern raster pixel_depths pixel_kinds
    ∷ row 7 pattern key pixel_depths []
    ∷ row 8 host_bits expansion bit_depths []
    ∷ row 9 host_bits expansion_over bit_depths []
    ∷ row 10 window blend pixel_depths all_kinds
    ∷ row 11 host_pixels blend pixel_depths all_kinds
    ∷ row 12 nothing fill [] []
    ∷ row 14 memory_bits expansion bit_depths []
    ∷ row 15 memory_bits expansion_over bit_depths []
    ∷ []

-- smaller tables: the bytes of a pixel and its format, by depth and by kind; the bits of a unit, by depth; the side of a pattern,
-- by whether it is large
abbrev pub bytes_by_depth : List (ℕ × ℕ)
bytes_by_depth = (0, 1) ∷ (1, 2) ∷ (2, 3) ∷ (3, 3) ∷ []

abbrev pub bytes_by_kind : List (ℕ × ℕ)
bytes_by_kind = (0, 1) ∷ (1, 2) ∷ (2, 3) ∷ (4, 1) ∷ (5, 2) ∷ []

abbrev pub formats_by_depth : List (ℕ × Depth)
formats_by_depth = (0, Rgb332) ∷ (1, Rgb565) ∷ (2, Rgb888) ∷ (3, Rgb888) ∷ []

abbrev pub formats_by_kind : List (ℕ × Depth)
formats_by_kind = (0, Rgb332) ∷ (1, Rgb565) ∷ (2, Rgb888) ∷ []

abbrev pub overlays_by_kind : List (ℕ × OverlayKind)
overlays_by_kind = (4, Index26) ∷ (5, Argb4444) ∷ []

abbrev pub unit_bits_by_depth : List (ℕ × ℕ)
unit_bits_by_depth = (0, 8) ∷ (1, 16) ∷ []

abbrev pub pattern_sides : List (Bool × ℕ)
pattern_sides = (false, 8) ∷ (true, 16) ∷ []

-- a table lists x beside k
abbrev pub Lists : {K X : Type 0} → List (K × X) → K → X → Type 0
Lists table k x = Contains table (k, x)

-- the row of a start's operation
pub record RowOf (s : Settings) (r : Row) : Type 0 where
  pub listed : Contains operations r
  pub code : r.code ≡ s.operation

-- a window of these sides on a surface, and the bytes of its pixels by a table
pub record WindowOn (f : Surface) (sizes : List (ℕ × ℕ)) (w h : ℕ) (a : Area) (b : ℕ) : Type 0 where
  pub start : a.start ≡ f.start
  pub image : a.image ≡ f.image
  pub left : a.left ≡ f.left
  pub top : a.top ≡ f.top
  pub width : a.width ≡ w
  pub height : a.height ≡ h
  pub bytes : Lists sizes f.depth b

-- a one-bit picture as wide as the rectangle
pub record BitRowsOf (s : Settings) (q : Rows) : Type 0 where
  pub unit : Lists unit_bits_by_depth s.first.depth q.unit
  pub start : q.start ≡ s.code
  pub columns : q.columns ≡ s.width

-- what S0 is: a pattern has sides of its own
abbrev pub FirstIs : Settings → Supply → Origin → Type 0
FirstIs s nothing origin.unused = Unit {0}
FirstIs s host_pixels (origin.host b) = Lists bytes_by_depth s.first.depth b
FirstIs s window (origin.image a b) = WindowOn s.first bytes_by_depth s.width s.height a b
FirstIs s pattern (origin.pattern a b columns) =
    (n : ℕ) × Lists pattern_sides s.large n × WindowOn s.first bytes_by_depth n n a b × (columns ≡ s.width)
FirstIs s host_bits (origin.host_bits q) = BitRowsOf s q
FirstIs s memory_bits (origin.bits q start) = BitRowsOf s q × (start ≡ s.first.start)
FirstIs _ _ _ = ⊥

-- and S1: a window, if the row has kinds for it
abbrev pub SecondIs : Settings → List ℕ → Origin → Type 0
SecondIs s [] origin.unused = Unit {0}
SecondIs s (_ ∷ _) (origin.image a b) = WindowOn s.second bytes_by_kind s.width s.height a b
SecondIs _ _ _ = ⊥

-- D
abbrev pub TargetIs : Settings → Area → ℕ → Type 0
TargetIs s a b = WindowOn s.target bytes_by_depth s.width s.height a b

-- a window that the operation uses, with the bytes of its pixels
pub data UsesWindow (s : Settings) (r : Row) (a : Area) (b : ℕ) : Type 0 where
  of_target : TargetIs s a b → UsesWindow s r a b
  of_first : FirstIs s r.supply (origin.image a b) → UsesWindow s r a b
  of_pattern : (columns : ℕ) → FirstIs s r.supply (origin.pattern a b columns) → UsesWindow s r a b
  of_second : SecondIs s r.kinds (origin.image a b) → UsesWindow s r a b

-- x is a byte of a pixel of such a window, or of a unit of a one-bit picture in memory
pub data UsesByte (s : Settings) (r : Row) (x : ℕ) : Type 0 where
  of_window : (a : Area) (b : ℕ) → UsesWindow s r a b → PixelByte a b x → UsesByte s r x
  of_bits : (q : Rows) (start : ℕ) → FirstIs s r.supply (origin.bits q start) → UnitByte q start s.height x → UsesByte s r x

-- a source is used, and its depth or kind is none of those listed
pub record Unlisted (numbers : List ℕ) (n : ℕ) : Type 0 where
  pub used : numbers ≢ []
  pub missing : Contains numbers n → ⊥

-- 3: no row has the code
abbrev pub NoSuchOperation : Settings → Type 0
NoSuchOperation s = (r : Row) → RowOf s r → ⊥

-- 4: the depth of D, the depth of S0 or the kind of S1 is not listed
pub data DepthNotTaken (s : Settings) (r : Row) : Type 0 where
  target_depth : Unlisted pixel_depths s.target.depth → DepthNotTaken s r
  first_depth : Unlisted r.depths s.first.depth → DepthNotTaken s r
  second_kind : Unlisted r.kinds s.second.depth → DepthNotTaken s r

-- 5: S0 is made of bits, and its unit has no bit with the number of the start bit
pub record StartBitPastUnit (s : Settings) (r : Row) : Type 0 where
  pub bits : (r.supply ≡ host_bits) ⊎ (r.supply ≡ memory_bits)
  pub unit : ℕ
  pub sized : Lists unit_bits_by_depth s.first.depth unit
  pub past : unit ≤ s.code

-- 6: a blend with S1 of kind 0 to 2 has a level above 32
pub record LevelTooHigh (s : Settings) (r : Row) : Type 0 where
  pub blends : r.action ≡ blend
  pub kind : Contains pixel_kinds s.second.depth
  pub high : 32 < s.level

-- 7: a window that is used is not within the limits
pub record OutsideLimits (s : Settings) (r : Row) : Type 0 where
  pub area : Area
  pub bytes : ℕ
  pub used : UsesWindow s r area bytes
  pub outside : Within 8191 area → ⊥

-- 8: a byte that is used does not lie below the size
abbrev pub PastMemory : Settings → ℕ → Row → Type 0
PastMemory s size r = BytePast (UsesByte s r) size

-- the operation has a row, of which a fact holds
pub record OfRow (s : Settings) (Fact : Row → Type 0) : Type 0 where
  pub row : Row
  pub is : RowOf s row
  pub fact : Fact row

-- number n is a ground against a start over a memory of some size
pub data Ground (s : Settings) (size n : ℕ) : Type 0 where
  third : n ≡ 3 → NoSuchOperation s → Ground s size n
  fourth : n ≡ 4 → OfRow s (DepthNotTaken s) → Ground s size n
  fifth : n ≡ 5 → OfRow s (StartBitPastUnit s) → Ground s size n
  sixth : n ≡ 6 → OfRow s (LevelTooHigh s) → Ground s size n
  seventh : n ≡ 7 → OfRow s (OutsideLimits s) → Ground s size n
  eighth : n ≡ 8 → OfRow s (PastMemory s size) → Ground s size n

-- the pixel rule: raster by the code; key by the background; expansion to foreground and background, or to foreground alone; blend
-- by the level register, or by the levels of an overlay; fill with the foreground
abbrev pub DrawsBy : Settings → Action → Rule → Type 0
DrawsBy s raster (rule.Raster q) =
    (q.rule ≡ s.code) × Lists formats_by_depth s.first.depth q.first × Lists formats_by_kind s.second.depth q.second
DrawsBy s key (rule.Key q) = (q.background ≡ s.background) × Lists formats_by_depth s.first.depth q.first
DrawsBy s expansion (rule.Expand q) = (q.foreground ≡ s.foreground) × (q.background ≡ s.background)
DrawsBy s expansion_over (rule.ExpandOver q) = q.foreground ≡ s.foreground
DrawsBy s blend (rule.Blend q) =
    (q.level ≡ s.level) × Lists formats_by_depth s.first.depth q.first × Lists formats_by_kind s.second.depth q.second
DrawsBy s blend (rule.OverlayBlend q) =
    Lists formats_by_depth s.first.depth q.first × Lists overlays_by_kind s.second.depth q.second
DrawsBy s fill (rule.Fill q) = q.foreground ≡ s.foreground
DrawsBy _ _ _ = ⊥

-- what is drawn is what the row and the settings say
pub record DrawsByRow (s : Settings) (p : Plan) (r : Row) : Type 0 where
  pub rule : DrawsBy s r.action p.rule
  pub first : FirstIs s r.supply p.first
  pub second : SecondIs s r.kinds p.second
  pub canvas : Lists formats_by_depth s.target.depth p.canvas
  pub bytes : ℕ
  pub target : TargetIs s p.target bytes
  pub within : (a : Area) (b : ℕ) → UsesWindow s r a b → Within 8191 a

-- an accepted start: there is no ground against it; it draws what its row says, on and from bytes below the size; it is for a memory
-- of that size, nothing of it is drawn, and no byte waits
pub record Accepted (s : Settings) (size : ℕ) (w : Work) : Type 0 where
  pub none : (n : ℕ) → Ground s size n → ⊥
  pub draws : OfRow s (DrawsByRow s w.plan)
  pub below : (x : ℕ) → OpByte (op_at w.plan) x → x < size
  pub cleared_for : w.size ≡ size
  pub drawn : w.drawn ≡ 0
  pub waiting : w.waiting ≡ []

-- a declined one: the number is a ground, no lower number is, and the settings are what they were
pub record DeclinedBy (s : Settings) (size : ℕ) (t : Settings) (n : ℕ) : Type 0 where
  pub ground : Ground s size n
  pub lowest : (m : ℕ) → m < n → Ground s size m → ⊥
  pub unchanged : t ≡ s

-- a start ends as the table says
abbrev pub ByTheTable : Settings → ℕ → Clearing → Type 0
ByTheTable s size (cleared w) = Accepted s size w
ByTheTable s size (declined t n) = DeclinedBy s size t n
