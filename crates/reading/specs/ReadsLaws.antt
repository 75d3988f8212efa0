-- A record that is read, by what the steps of the call leave.
use Rattle.std.specs.Prelude.{ℕ, ◌≡◌, List, ◌∷◌}
use Rattle.std.proofs.Common.{ap, sym, ◌∙◌}
use Rattle.std.proofs.Math.Option.{Option, none, some}
use Rattle.laws.specs.Rules.{first_broken}
use Rattle.forms.specs.declared.rows.Level.{Level}
use Rattle.forms.specs.declared.forms.Form.{Form}
use Rattle.forms.specs.declared.forms.Item.{Item}
use Rattle.state.specs.declared.answers.Recorded.{Recorded}
use Rattle.state.specs.declared.refusal.Refusal.{Refusal}
use Rattle.state.specs.Answers.{answered}
use Rattle.state.specs.AnswersLaws.{recorded_told}
use Rattle.state.specs.Memory.{Lent}
use Rattle.reading.specs.Record.{record_of_key, record_number, record_session, record_values, stamp_shown, quote_at, quote_beside, ReadsAt}
use Rattle.reading.specs.ReadRules.{record_rules}
use Rattle.reading.specs.Reads.{ReadsFor}

module _ {A : Type 0} (show : Form → List ℕ → A) (blank : A) (item : Item) (lent : Lent) (letter : ℕ) (key : List ℕ) (level : Level) where
  abbrev record_checks : Option Refusal
  record_checks = first_broken (record_rules item lent letter key)

  abbrev values : ℕ → List ℕ
  values at = record_values (record_number lent.records at) (record_session item lent.records at)

  pub record_refused : (r : Refusal) → record_checks ≡ some r → ReadsFor show blank item lent letter key level (Recorded.Refused r) blank
  record_refused r e =
      let at : ℕ = record_of_key item lent.lists letter key level in
      record {
        answers = sym (ap (λ (o : Option Refusal). answered o (values at)) e);
        quotes = sym (ap (λ (o : Option Refusal). quote_beside blank o (quote_at show blank item (stamp_shown item letter) lent.records at level)) e);
      }

  pub record_read : record_checks ≡ none → {at : ℕ} → at ≡ record_of_key item lent.lists letter key level → {answer : Recorded} {quote : A}
      → ReadsAt show blank item (stamp_shown item letter) lent.records at level answer quote → ReadsFor show blank item lent letter key level answer quote
  record_read e here own =
      let at : ℕ = record_of_key item lent.lists letter key level in
      record {
        answers = own.says ∙ ap (λ (k : ℕ). 0 ∷ values k) here ∙ sym (ap (λ (o : Option Refusal). answered o (values at)) e);
        quotes = own.shows ∙ ap (λ (k : ℕ). quote_at show blank item (stamp_shown item letter) lent.records k level) here
            ∙ sym (ap (λ (o : Option Refusal). quote_beside blank o (quote_at show blank item (stamp_shown item letter) lent.records at level)) e);
      }

-- one outcome, of a contract's record and of a pair's
pub one_read : {A : Type 0} {show : Form → List ℕ → A} {blank : A} {item : Item} {lent : Lent} {letter : ℕ} {key : List ℕ} {level : Level} {quote quote' : A} (a b : Recorded)
    → ReadsFor show blank item lent letter key level a quote → ReadsFor show blank item lent letter key level b quote' → (a ≡ b) × (quote ≡ quote')
one_read a b p q = (recorded_told a b (p.answers ∙ sym q.answers), p.quotes ∙ sym q.quotes)
