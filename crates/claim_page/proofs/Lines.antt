-- The lines of a page lie one after the other, each with its length, the fields of a line at their places, and what is written in a field is
-- read there. Assumes nothing.
use mathlib.Core.Path.{◌≡◌, refl, sym, ◌∙◌, ap}
use mathlib.Core.List.{List, [], ◌∷◌, ◌++◌, append_assoc, map}
use Prim.Native.Nat.{ℕ, zero, suc, ◌+◌, ◌*◌, ◌^◌, ◌<◌}
use native.Mathlib.Omega.{arith}
use lib.ListN.{length, take, drop, get_or, length-append}
use lib.Seq.{take_at, drop_at, drop-append-add, get_or-drop}
use Rattle.lists.specs.Lists.{sum, Each}
use Rattle.lists.proofs.Members.{each_take, each-drop}
use Rattle.calendar_days.specs.Days.{day_kind}
use Rattle.series_rows.specs.Rows.{Row}
use Rattle.text.specs.Text.{space, line_feed}
use Rattle.text_columns.specs.Columns.{right_aligned}
use Rattle.text_columns.proofs.Columns.{length-right}
use Rattle.text_page_lines.specs.PageLines.{page_line, day_page_line}
use Rattle.text_page_lines.proofs.PageLines.{day-line-length}
use Rattle.text_listing.specs.Listing.{line_after_line}
use Rattle.claim_page.specs.ReadBack.{number, line_on, Parted, first_on, day_type_on, count_on, watt_hours_on}
use Rattle.claim_page.proofs.ReadBack.{read_right}

-- a field between what stands in front of it and behind it
part : (front field rest : List ℕ) (a b : ℕ) {whole : List ℕ} → whole ≡ front ++ (field ++ rest) → length front ≡ a → length field ≡ b →
    take b (drop a whole) ≡ field
part front field rest a b e f l = rw e (ap (take b) (drop_at front (field ++ rest) a f) ∙ take_at field rest b l)

-- a byte behind what stands in front of it
byte : (front rest : List ℕ) (x a : ℕ) {whole : List ℕ} → whole ≡ front ++ (x ∷ rest) → length front ≡ a → get_or whole a 0 ≡ x
byte front rest x a {whole} e f =
    let here : a + 0 ≡ a = omega arith in
    ap (λ (n : ℕ). get_or whole n 0) (sym here) ∙ sym (get_or-drop a whole 0 0)
    ∙ ap (λ (bytes : List ℕ). get_or (drop a bytes) 0 0) e ∙ ap (λ (bytes : List ℕ). get_or bytes 0 0) (drop_at front (x ∷ rest) a f)

-- the fields of a line
module _ (w : ℕ) (first day_type : List ℕ) (count watt_hours : ℕ) (ten : length first ≡ 10) (wide : length day_type ≡ w)
    (few : count < 10 ^ 6) (small : watt_hours < 10 ^ 16) where
  abbrev line : List ℕ
  line = page_line first day_type count watt_hours

  abbrev counted : List ℕ
  counted = right_aligned 6 count

  abbrev energy : List ℕ
  energy = right_aligned 16 watt_hours

  first_field : take 10 line ≡ first
  unfolding page_line
  first_field = take_at first _ 10 ten

  day-type-field : take w (drop 11 line) ≡ day_type
  unfolding page_line
  day-type-field =
      part (first ++ (space ∷ [])) day_type (space ∷ (counted ++ (space ∷ (energy ++ (line_feed ∷ []))))) 11 w {whole = line}
      (simp append_assoc) (simp length-append (omega arith)) wide

  count-field : take 6 (drop (12 + w) line) ≡ counted
  unfolding page_line
  count-field =
      part (first ++ (space ∷ (day_type ++ (space ∷ [])))) counted (space ∷ (energy ++ (line_feed ∷ []))) (12 + w) 6 {whole = line}
      (simp append_assoc) (simp length-append (omega arith)) (length-right 6 count (omega arith) few)

  watt-hours-field : take 16 (drop (19 + w) line) ≡ energy
  unfolding page_line
  watt-hours-field =
      let long = length-right 6 count (omega arith) few in
      part (first ++ (space ∷ (day_type ++ (space ∷ (counted ++ (space ∷ [])))))) energy (line_feed ∷ []) (19 + w) 16 {whole = line}
      (simp append_assoc) (simp length-append (omega arith)) (length-right 16 watt_hours (omega arith) small)

  -- and the bytes between and behind them
  first-space : get_or line 10 0 ≡ 32
  unfolding page_line
  first-space = byte first (day_type ++ (space ∷ (counted ++ (space ∷ (energy ++ (line_feed ∷ [])))))) space 10 {whole = line} refl ten

  second-space : get_or line (11 + w) 0 ≡ 32
  unfolding page_line
  second-space =
      byte (first ++ (space ∷ day_type)) (counted ++ (space ∷ (energy ++ (line_feed ∷ [])))) space (11 + w) {whole = line}
      (simp append_assoc) (simp length-append (omega arith))

  third-space : get_or line (18 + w) 0 ≡ 32
  unfolding page_line
  third-space =
      let long = length-right 6 count (omega arith) few in
      byte (first ++ (space ∷ (day_type ++ (space ∷ counted)))) (energy ++ (line_feed ∷ [])) space (18 + w) {whole = line}
      (simp append_assoc) (simp length-append (omega arith))

  feed : get_or line (35 + w) 0 ≡ 10
  unfolding page_line
  feed =
      let long = length-right 6 count (omega arith) few in
      let wide' = length-right 16 watt_hours (omega arith) small in
      byte (first ++ (space ∷ (day_type ++ (space ∷ (counted ++ (space ∷ energy)))))) [] line_feed (35 + w) {whole = line}
      (simp append_assoc) (simp length-append (omega arith))

-- what is read on a line
pub record LineRead (w : ℕ) (page : List ℕ) (i : ℕ) (first day_type : List ℕ) (count watt_hours : ℕ) : Type 0 where
  pub first-is : first_on w page i ≡ first
  pub type-is : day_type_on w page i ≡ day_type
  pub count-is : count_on w page i ≡ number count
  pub energy-is : watt_hours_on w page i ≡ number watt_hours
  pub parted-is : Parted w page i

pub line_read : (w : ℕ) (page : List ℕ) (i : ℕ) (first day_type : List ℕ) (count watt_hours : ℕ) → line_on w page i ≡ page_line first day_type count watt_hours →
    length first ≡ 10 → length day_type ≡ w → count < 10 ^ 6 → watt_hours < 10 ^ 16 → LineRead w page i first day_type count watt_hours
line_read w page i first day_type count watt_hours e ten wide few small =
    record {
      first-is = rw e (first_field w first day_type count watt_hours ten wide few small);
      type-is = rw e (day-type-field w first day_type count watt_hours ten wide few small);
      count-is = rw (e, count-field w first day_type count watt_hours ten wide few small) (read_right 6 count (omega arith));
      energy-is = rw (e, watt-hours-field w first day_type count watt_hours ten wide few small) (read_right 16 watt_hours (omega arith));
      parted-is = record {
        first = rw e (first-space w first day_type count watt_hours ten wide few small);
        second = rw e (second-space w first day_type count watt_hours ten wide few small);
        third = rw e (third-space w first day_type count watt_hours ten wide few small);
        last = rw e (feed w first day_type count watt_hours ten wide few small);
      };
    }

-- rows whose figures fit their fields
abbrev pub Narrow : Row → Type 0
Narrow row = (row.count < 10 ^ 6) × (row.watt_hours < 10 ^ 16)

pub narrow_at : (rows : List Row) (i : ℕ) (row : Row) → Each Narrow rows → take 1 (drop i rows) ≡ row ∷ [] → Narrow row
narrow_at rows i row all e = (rw e at (each_take Narrow 1 (drop i rows) (each-drop Narrow i rows all))).0

-- as those do that add up to no more
pub all-narrow : (rows : List Row) → sum (map (λ row. row.count) rows) < 10 ^ 6 → sum (map (λ row. row.watt_hours) rows) < 10 ^ 16 → Each Narrow rows
unfolding sum
all-narrow [] few small = tt
all-narrow (row ∷ rows) few small = ((omega arith, omega arith), all-narrow rows (omega arith) (omega arith))

module _ (holidays : List ℕ) where
  abbrev pub lines : List Row → List ℕ
  lines rows = line_after_line day_page_line holidays rows

  abbrev line_of : Row → List ℕ
  line_of row = day_page_line (day_kind row.date holidays) row

  pub lines-length : (rows : List Row) → Each Narrow rows → length (lines rows) ≡ 38 * length rows
  unfolding line_after_line
  lines-length [] all = refl
  lines-length (row ∷ rows) all =
      omega (arith, length-append (line_of row) (lines rows), day-line-length (day_kind row.date holidays) row all.0.0 all.0.1, lines-length rows all.1)

  -- the line of a row
  pub line_at : (rows : List Row) (rest : List ℕ) (i : ℕ) {row : Row} → Each Narrow rows → take 1 (drop i rows) ≡ row ∷ [] →
      take 38 (drop (38 * i) (lines rows ++ rest)) ≡ line_of row
  unfolding line_after_line
  line_at [] rest zero all e = let z : ◌≡◌ {A = ℕ} 0 1 = cc in absurd (omega arith)
  line_at [] rest (suc i) all e = let z : ◌≡◌ {A = ℕ} 0 1 = cc in absurd (omega arith)
  line_at (first ∷ rows) rest zero {row} all e =
      let long = day-line-length (day_kind first.date holidays) first all.0.0 all.0.1 in
      let same : first ≡ row = cc in
      ap (take 38) (append_assoc (line_of first) (lines rows) rest) ∙ take_at (line_of first) (lines rows ++ rest) 38 long ∙ ap line_of same
  line_at (first ∷ rows) rest (suc i) all e =
      let long = day-line-length (day_kind first.date holidays) first all.0.0 all.0.1 in
      let next : 38 * suc i ≡ length (line_of first) + 38 * i = omega arith in
      ap (λ (n : ℕ). take 38 (drop n ((line_of first ++ lines rows) ++ rest))) next
      ∙ ap (λ (all : List ℕ). take 38 (drop (length (line_of first) + 38 * i) all)) (append_assoc (line_of first) (lines rows) rest)
      ∙ ap (take 38) (drop-append-add (line_of first) (lines rows ++ rest) (38 * i))
      ∙ line_at rows rest i all.1 e

  -- and the last one, behind them
  pub last-at : (rows : List Row) (last rest : List ℕ) (n : ℕ) → Each Narrow rows → length rows ≡ n → length last ≡ 38 →
      take 38 (drop (38 * n) (lines rows ++ (last ++ rest))) ≡ last
  last-at rows last rest n all e long =
      part (lines rows) last rest (38 * n) 38 refl (lines-length rows all ∙ ap (λ (m : ℕ). 38 * m) e) long
