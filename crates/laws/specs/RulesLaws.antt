-- The rule that decides is the first broken one.
use Rattle.std.specs.Prelude.{ℕ, ◌≡◌, refl, Bool, true, false, ◌↔◌, List, [], ◌∷◌, ◌++◌}
use Rattle.std.proofs.Common.{ap, sym, ◌∙◌, arith}
use Rattle.std.proofs.Math.Option.{none, some}
use Rattle.laws.specs.Rules.{Rule, first_broken, Hold, Broken}

module _ {Refusal : Type 0} where
  pub unlike : {refusal : Refusal} → some refusal ≡ none → ⊥
  unlike e = let z : ◌≡◌ {A = ℕ} 0 1 = cc in omega arith

  pub goes_on : (rule : Rule Refusal) (rules : List (Rule Refusal)) → rule.holds ≡ true → first_broken (rule ∷ rules) ≡ first_broken rules
  goes_on rule rules e = rw e

  pub ends : (rule : Rule Refusal) (rules : List (Rule Refusal)) → rule.holds ≡ false → first_broken (rule ∷ rules) ≡ some rule.refusal
  ends rule rules e = rw e

  -- none is broken exactly when all hold
  pub none_hold : (rules : List (Rule Refusal)) → first_broken rules ≡ none → Hold rules
  none_hold [] e = tt
  none_hold (rule ∷ rules) e = go rule.holds refl (none_hold rules)
    where
      go : (t : Bool) → rule.holds ≡ t → (first_broken rules ≡ none → Hold rules) → Hold (rule ∷ rules)
      go true f rest = (f, rest (sym (goes_on rule rules f) ∙ e))
      go false f rest = absurd (unlike (sym (ends rule rules f) ∙ e))

  pub hold_none : (rules : List (Rule Refusal)) → Hold rules → first_broken rules ≡ none
  hold_none [] h = refl
  hold_none (rule ∷ rules) h = goes_on rule rules h.0 ∙ hold_none rules h.1

  -- a refusal is answered exactly when its rule is broken and all before it hold
  pub some_broken : (rules : List (Rule Refusal)) (refusal : Refusal) → first_broken rules ≡ some refusal → Broken rules refusal
  some_broken [] refusal e = absurd (unlike (sym e))
  some_broken (rule ∷ rules) refusal e = go rule.holds refl (some_broken rules refusal)
    where
      go : (t : Bool) → rule.holds ≡ t → (first_broken rules ≡ some refusal → Broken rules refusal) → Broken (rule ∷ rules) refusal
      go true f rest =
          let b = rest (sym (goes_on rule rules f) ∙ e) in
          record {
            before = rule ∷ b.before;
            rule = b.rule;
            behind = b.behind;
            in_order = ap (λ (l : List (Rule Refusal)). rule ∷ l) b.in_order;
            hold = (f, b.hold);
            breaks = b.breaks;
            refusal_is = b.refusal_is;
          }
      go false f rest =
          let same : some rule.refusal ≡ some refusal = sym (ends rule rules f) ∙ e in
          record { before = []; rule = rule; behind = rules; in_order = refl; hold = tt; breaks = f; refusal_is = cc }

  pub broken_some : (rules : List (Rule Refusal)) (refusal : Refusal) → Broken rules refusal → first_broken rules ≡ some refusal
  broken_some rules refusal b = ap first_broken b.in_order ∙ after b.before b.hold
    where
      after : (before : List (Rule Refusal)) → Hold before → first_broken (before ++ (b.rule ∷ b.behind)) ≡ some refusal
      after [] h = ends b.rule b.behind b.breaks ∙ ap some b.refusal_is
      after (rule ∷ before) h = goes_on rule (before ++ (b.rule ∷ b.behind)) h.0 ∙ after before h.1

  -- rules in front of others are judged first
  pub front_holds : (rules more : List (Rule Refusal)) → Hold rules → first_broken (rules ++ more) ≡ first_broken more
  front_holds [] more h = refl
  front_holds (rule ∷ rules) more h = goes_on rule (rules ++ more) h.0 ∙ front_holds rules more h.1

  pub front_broken : (rules more : List (Rule Refusal)) (refusal : Refusal) → first_broken rules ≡ some refusal → first_broken (rules ++ more) ≡ some refusal
  front_broken [] more refusal e = absurd (unlike (sym e))
  front_broken (rule ∷ rules) more refusal e = go rule.holds refl (front_broken rules more refusal)
    where
      go : (t : Bool) → rule.holds ≡ t → (first_broken rules ≡ some refusal → first_broken (rules ++ more) ≡ some refusal)
          → first_broken (rule ∷ (rules ++ more)) ≡ some refusal
      go true f rest = goes_on rule (rules ++ more) f ∙ rest (sym (goes_on rule rules f) ∙ e)
      go false f rest = ends rule (rules ++ more) f ∙ sym (ends rule rules f) ∙ e

  pub hold_append : (rules more : List (Rule Refusal)) → Hold (rules ++ more) ↔ Hold rules × Hold more
  hold_append [] more = ((λ h. (tt, h)), (λ h. h.1))
  hold_append (rule ∷ rules) more =
      let rest = hold_append rules more in
      ((λ h. let p = rest.0 h.1 in ((h.0, p.0), p.1)), (λ h. (h.0.0, rest.1 (h.0.1, h.1))))

  -- a last rule by itself
  pub last_holds : (rules : List (Rule Refusal)) (rule : Rule Refusal) → first_broken rules ≡ none → rule.holds ≡ true → first_broken (rules ++ (rule ∷ [])) ≡ none
  last_holds rules rule e h = front_holds rules (rule ∷ []) (none_hold rules e) ∙ goes_on rule [] h

  pub last_broken : (rules : List (Rule Refusal)) (rule : Rule Refusal) → first_broken rules ≡ none → rule.holds ≡ false → first_broken (rules ++ (rule ∷ [])) ≡ some rule.refusal
  last_broken rules rule e h = front_holds rules (rule ∷ []) (none_hold rules e) ∙ ends rule [] h

  pub last_held : (rules : List (Rule Refusal)) (rule : Rule Refusal) → first_broken (rules ++ (rule ∷ [])) ≡ none → (first_broken rules ≡ none) × (rule.holds ≡ true)
  last_held rules rule e =
      let both = (hold_append rules (rule ∷ [])).0 (none_hold (rules ++ (rule ∷ [])) e) in
      (hold_none rules both.0, both.1.0)

  -- what is so of each rule's refusal where the rule is broken, is so of the refusal that is answered
  abbrev pub EachBroken : (Refusal → Type 0) → List (Rule Refusal) → Type 0
  EachBroken P [] = Unit {0}
  EachBroken P (rule ∷ rules) = (rule.holds ≡ false → P rule.refusal) × EachBroken P rules

  pub each_append : (P : Refusal → Type 0) (rules more : List (Rule Refusal)) → EachBroken P rules → EachBroken P more → EachBroken P (rules ++ more)
  each_append P [] more h k = k
  each_append P (rule ∷ rules) more h k = (h.0, each_append P rules more h.1 k)

  pub of_broken : (P : Refusal → Type 0) (rules : List (Rule Refusal)) → EachBroken P rules → (refusal : Refusal) → first_broken rules ≡ some refusal → P refusal
  of_broken P [] each refusal e = absurd (unlike (sym e))
  of_broken P (rule ∷ rules) each refusal e = go rule.holds refl (of_broken P rules each.1 refusal)
    where
      go : (t : Bool) → rule.holds ≡ t → (first_broken rules ≡ some refusal → P refusal) → P refusal
      go true f rest = rest (sym (goes_on rule rules f) ∙ e)
      go false f rest =
          let same : some rule.refusal ≡ some refusal = sym (ends rule rules f) ∙ e in
          let is : rule.refusal ≡ refusal = cc in
          rw (← is) (each.0 f)
