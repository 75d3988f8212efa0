-- The form that is written stands with its code in the table, so that code and length name it again.
use Rattle.std.specs.Prelude.{ℕ, ◌≡◌, refl, Bool, true, false, ◌&&◌, cond, ◌↔◌, eqb, Some}
use Rattle.std.proofs.Common.{ap₂, ◌∙◌, eqb-true}
use Rattle.std.proofs.lemmas.Bool.{false≢true}
use mathlib.Core.List.{List, [], ◌∷◌, map, Memᴰ}
use Rattle.laws.specs.Choice.{clash}
use Rattle.laws.specs.Tests.{both}
use Rattle.forms.specs.declared.rows.Level.{Level}
use Rattle.forms.specs.declared.rows.Level.TheVariants.{One, Two}
use Rattle.forms.specs.declared.forms.Form.{Form}
use Rattle.forms.specs.declared.forms.Form.TheVariants.{LevelOne, LevelTwo, PairOne, PairTwo, FutureOne, FutureTwo, PreOpenOne, PreOpenTwo}
use Rattle.forms.specs.declared.forms.Item.{Item}
use Rattle.forms.specs.declared.forms.Item.TheVariants.{Contract, Pair}
use Rattle.forms.specs.declared.forms.Named.TheVariants as is
use Rattle.forms.specs.declared.forms.Subject.TheVariants.{Of}
use Rattle.forms.specs.Forms.{rows_of, subject_of, at_level, Line, table, meaning_in, meaning_of, forms_of, form_of, is_asked, written_by, written_form}
use Rattle.forms.specs.FormsLaws.{table_told, one_of_them, asked_written, written_told}
use Rattle.forms.specs.Rows.{message_length}
use Rattle.head.specs.Tests.{is_code}
use Rattle.writer.specs.declared.writing.Code.{Code}
use Rattle.writer.specs.Chosen.{form_written, in_table}
use Rattle.written.specs.ReadBack.{WritesUpdate}

-- ---- what is asked for

module _ (item : Item) (level : Level) where
  -- a form that tells of what is asked for is one of these
  abbrev Among : List Form → Type 0
  Among forms = (form : Form) × Memᴰ form forms × (is_asked (subject_of form) item level ≡ true)

  -- what is written is what was asked for
  asked_by : (forms : List Form) (form : Form) → written_by forms item level ≡ Some form → is_asked (subject_of form) item level ≡ true
  asked_by [] form e = absurd (clash (cc))
  asked_by (first ∷ rest) form e = go (is_asked (subject_of first) item level) refl e (asked_by rest form)
    where
      go : (t : Bool) → is_asked (subject_of first) item level ≡ t → cond t (Some first) (written_by rest item level) ≡ Some form
          → (written_by rest item level ≡ Some form → is_asked (subject_of form) item level ≡ true) → is_asked (subject_of form) item level ≡ true
      go true t e later = let own : form ≡ first = cc in rw own t
      go false t e later = later e

  found_among : (forms : List Form) → in_table (written_by forms item level) ≡ true → Among forms
  found_among [] e = absurd (false≢true e)
  found_among (first ∷ rest) e = go (is_asked (subject_of first) item level) refl e (found_among rest)
    where
      go : (t : Bool) → is_asked (subject_of first) item level ≡ t → in_table (cond t (Some first) (written_by rest item level)) ≡ true
          → (in_table (written_by rest item level) ≡ true → Among rest) → Among (first ∷ rest)
      go true t e later = (first, Memᴰ.head refl, t)
      go false t e later = let f = later e in (f.0, Memᴰ.tail f.1, f.2)

  among_found : (forms : List Form) (form : Form) → Memᴰ form forms → is_asked (subject_of form) item level ≡ true → in_table (written_by forms item level) ≡ true
  among_found [] form m t = elim m [ ]
  among_found (first ∷ rest) form (Memᴰ.head same) t = let own : is_asked (subject_of first) item level ≡ true = rw same at t in rw own
  among_found (first ∷ rest) form (Memᴰ.tail m) t = go (is_asked (subject_of first) item level) (among_found rest form m t)
    where
      go : (own : Bool) → in_table (written_by rest item level) ≡ true → in_table (cond own (Some first) (written_by rest item level)) ≡ true
      go true later = refl
      go false later = later

-- ---- the table

-- 01 "The message": a line of the table with the code and the form
pub record HasLine (lines : List Line) (letter second : ℕ) (form : Form) : Type 0 where
  pub line : Line
  pub there : Memᴰ line lines
  pub its_letter : letter ≡ line.letter
  pub its_second : second ≡ line.second
  pub its_form : Memᴰ form line.meaning.forms

-- a form of a code stands with it in the table
line_there : (lines : List Line) (letter second : ℕ) (form : Form) → Memᴰ form (meaning_in lines letter second).forms → HasLine lines letter second form
line_there [] letter second form m = elim m [ ]
line_there (line ∷ lines) letter second form m = go (eqb letter line.letter && eqb second line.second) refl m (line_there lines letter second form)
  where
    go : (t : Bool) → eqb letter line.letter && eqb second line.second ≡ t → Memᴰ form (cond t line.meaning (meaning_in lines letter second)).forms
        → (Memᴰ form (meaning_in lines letter second).forms → HasLine lines letter second form) → HasLine (line ∷ lines) letter second form
    go true t m later =
        let codes = both (eqb letter line.letter) (eqb second line.second) t in
        record {
          line = line;
          there = Memᴰ.head refl;
          its_letter = eqb-true letter line.letter codes.0;
          its_second = eqb-true second line.second codes.1;
          its_form = m;
        }
    go false t m later = let h = later m in record { line = h.line; there = Memᴰ.tail h.there; its_letter = h.its_letter; its_second = h.its_second; its_form = h.its_form }

-- what two words say alike of every line, they say alike of one
alike : {A B : Type 0} (f g : A → B) (lines : List A) {line : A} → map f lines ≡ map g lines → Memᴰ line lines → f line ≡ g line
alike f g [] e m = elim m [ ]
alike f g (first ∷ lines) e (Memᴰ.head same) = let here : f first ≡ g first = cc in rw same here
alike f g (first ∷ lines) e (Memᴰ.tail m) = alike f g lines (cc) m

in_its_forms : (letter second : ℕ) (form : Form) → HasLine table letter second form → Memᴰ form (forms_of letter second)
in_its_forms letter second form h =
    let said : meaning_of h.line.letter h.line.second ≡ h.line.meaning
    = alike (λ (line : Line). meaning_of line.letter line.second) (λ (line : Line). line.meaning) table table_told h.there
    in
    rw (forms_of, h.its_letter, h.its_second, said) h.its_form

-- 01, the table's row 6, M-100: the code is in the table for what is asked exactly where a line of it has the code, and a form that
-- tells of that
pub table_exact : (item : Item) (code : Code) (level : Level)
    → in_table (form_written item code level) ≡ true ↔ (form : Form) × HasLine table code.0 code.1 form × (is_asked (subject_of form) item level ≡ true)
unfolding written_form meaning_of
table_exact item code level = (
  (λ e. let f = found_among item level (forms_of code.0 code.1) e in (f.0, line_there table code.0 code.1 f.0 f.1, f.2)),
  (λ f. among_found item level (forms_of code.0 code.1) f.0 (in_its_forms code.0 code.1 f.0 f.1) f.2),
)

codes : map (λ (line : Line). is_code line.letter line.second) table ≡ map (λ (line : Line). true) table
codes = refl

module _ (letter second : ℕ) (item : Item) (level : Level) (form : Form) (e : written_form letter second item level ≡ Some form) where
  has_line : HasLine table letter second form
  unfolding written_form meaning_of
  has_line = line_there table letter second form (one_of_them (forms_of letter second) item level form e)

  -- M-100: what is written tells of what was asked for
  pub asked_so : is_asked (subject_of form) item level ≡ true
  unfolding written_form
  asked_so = asked_by item level (forms_of letter second) form e

  -- 01 "The message": the length tells a code's forms apart
  pub form_told_lem : form_of letter second (message_length (rows_of form)) ≡ is.Form form
  form_told_lem = written_told letter second item level form e

  -- 01, the table's row 6, M-104: a code of the table is one of its segment's
  pub is_code_lem : is_code letter second ≡ true
  is_code_lem =
      ap₂ is_code has_line.its_letter has_line.its_second
      ∙ alike (λ (line : Line). is_code line.letter line.second) (λ (line : Line). true) table codes has_line.there

-- 01 "The message", M-100, M-104: where a code has two forms of a contract, or of a pair, the update of the level that is asked for is
-- written
pub level_chosen : (item : Item) (code : Code) (level : Level) (one two : Form) → forms_of code.0 code.1 ≡ one ∷ two ∷ [] → subject_of one ≡ Of item One → subject_of two ≡ Of item Two
    → WritesUpdate item code level (at_level level one two)
unfolding written_form
level_chosen item code level one two e first second = (rw e (asked_written one two item level first second), at_level_lem level)
  where
    at_level_lem : (level : Level) → subject_of (at_level level one two) ≡ Of item level
    at_level_lem One = first
    at_level_lem Two = second

-- 01 "The message": DN and TN are updates of contracts; M-104: and so are FN and PN
pub update_chosen : (level : Level)
    → WritesUpdate Contract (record { 0 = 68; 1 = 78 }) level (at_level level LevelOne LevelTwo)
    × WritesUpdate Contract (record { 0 = 84; 1 = 78 }) level (at_level level LevelOne LevelTwo)
    × WritesUpdate Contract (record { 0 = 70; 1 = 78 }) level (at_level level FutureOne FutureTwo)
    × WritesUpdate Contract (record { 0 = 80; 1 = 78 }) level (at_level level PreOpenOne PreOpenTwo)
unfolding meaning_of
update_chosen level = (
  level_chosen Contract (record { 0 = 68; 1 = 78 }) level LevelOne LevelTwo refl refl refl,
  level_chosen Contract (record { 0 = 84; 1 = 78 }) level LevelOne LevelTwo refl refl refl,
  level_chosen Contract (record { 0 = 70; 1 = 78 }) level FutureOne FutureTwo refl refl refl,
  level_chosen Contract (record { 0 = 80; 1 = 78 }) level PreOpenOne PreOpenTwo refl refl refl,
)

-- M-100: DP and TP are updates of pairs
pub pair_update_chosen : (level : Level)
    → WritesUpdate Pair (record { 0 = 68; 1 = 80 }) level (at_level level PairOne PairTwo)
    × WritesUpdate Pair (record { 0 = 84; 1 = 80 }) level (at_level level PairOne PairTwo)
unfolding meaning_of
pair_update_chosen level = (
  level_chosen Pair (record { 0 = 68; 1 = 80 }) level PairOne PairTwo refl refl refl,
  level_chosen Pair (record { 0 = 84; 1 = 80 }) level PairOne PairTwo refl refl refl,
)
