-- A chain of tests that gives the first fault.
use Rattle.std.proofs.Common.{◌≡◌, ℕ, ◌+◌, ◌<◌, Bool, true, false, Option, Some, None, Ok, Err, inl, inr, refl, arith, if◌then◌else◌}
use Rattle.std.specs.Bool.{Decides}
use Rattle.std.proofs.lemmas.Bool.Decides.{eqb_tells}
use Rattle.collections.specs.Refusal.{IsFirst}
use Rattle.schema_version.specs.declared.step.StepFault.{StepFault}
use Rattle.schema_version.specs.declared.step.StepFault.TheVariants.{Unknown, NotAdjacent, WrongWay, Dependent, NameTaken, Limit, Memory}
use Rattle.schema_version.specs.Moves.{rank}
use Rattle.schema_version.specs.Checks.{Answer, unless}

-- a search that finds what there is
abbrev pub Finds : Option ℕ → (ℕ → Type 0) → Type 0
Finds None P = (n : ℕ) → ¬ (P n)
Finds (Some n) P = P n

abbrev pub chain : Bool → Bool → Bool → Option ℕ → Bool → Bool → Answer
chain u a w o t l =
    if u then Err Unknown
    else (if a then Err NotAdjacent
    else (if w then Err WrongWay
    else unless o
    (if t then Err NameTaken
    else (if l then Err Limit
    else Ok tt))))

-- the tests decide the conditions of the faults
pub record AreTests (C : StepFault → Type 0) (u a w : Bool) (o : Option ℕ) (t l : Bool) : Type 0 where
  pub unknown : Decides u (C Unknown)
  pub not_adjacent : Decides a (C NotAdjacent)
  pub wrong_way : Decides w (C WrongWay)
  pub dependent : Finds o (λ on. C (Dependent on))
  pub taken : Decides t (C NameTaken)
  pub limit : Decides l (C Limit)
  pub memory : ¬ (C Memory)

module _ (C : StepFault → Type 0) where
  NoneBelow : ℕ → Type 0
  NoneBelow n = (fault : StepFault) → rank fault < n → ¬ (C fault)

  AtRank : ℕ → Type 0
  AtRank n = (fault : StepFault) → rank fault ≡ n → ¬ (C fault)

  none_below_1 : NoneBelow 1
  unfolding NoneBelow
  none_below_1 Unknown lt c = absurd (omega (arith, lt))
  none_below_1 _ lt c = absurd (omega (arith, lt))

  next : (n : ℕ) → NoneBelow n → AtRank n → NoneBelow (n + 1)
  unfolding NoneBelow AtRank
  next n below at fault lt c = elim (eqb_tells (rank fault) n) [ inl p ↦ at fault p.1 c | inr p ↦ below fault (omega (arith, p.1, lt)) c ]

  at_1 : ¬ (C Unknown) → AtRank 1
  unfolding AtRank
  at_1 h Unknown e c = h c
  at_1 h _ e c = absurd (omega (arith, e))

  at_2 : ¬ (C NotAdjacent) → AtRank 2
  unfolding AtRank
  at_2 h NotAdjacent e c = h c
  at_2 h _ e c = absurd (omega (arith, e))

  at_3 : ¬ (C WrongWay) → AtRank 3
  unfolding AtRank
  at_3 h WrongWay e c = h c
  at_3 h _ e c = absurd (omega (arith, e))

  at_4 : ((on : ℕ) → ¬ (C (Dependent on))) → AtRank 4
  unfolding AtRank
  at_4 h (Dependent on) e c = h on c
  at_4 h _ e c = absurd (omega (arith, e))

  at_5 : ¬ (C NameTaken) → AtRank 5
  unfolding AtRank
  at_5 h NameTaken e c = h c
  at_5 h _ e c = absurd (omega (arith, e))

  at_6 : ¬ (C Limit) → AtRank 6
  unfolding AtRank
  at_6 h Limit e c = h c
  at_6 h _ e c = absurd (omega (arith, e))

  at_7 : ¬ (C Memory) → AtRank 7
  unfolding AtRank
  at_7 h Memory e c = h c
  at_7 h _ e c = absurd (omega (arith, e))

  small : (fault : StepFault) → rank fault < 8
  small Unknown = omega arith
  small _ = omega arith

  -- what an answer says
  abbrev pub Says : Answer → Type 0
  Says (Ok done) = (fault : StepFault) → ¬ (C fault)
  Says (Err fault) = IsFirst rank C fault

  refuted : {P : Type 0} → Decides false P → ¬ P
  refuted d p = let wrong : false ≡ true = d.1 p in cc

  pub chain_says : (u a w : Bool) (o : Option ℕ) (t l : Bool) → AreTests C u a w o t l → Says (chain u a w o t l)
  unfolding NoneBelow AtRank
  chain_says true a w o t l d = (d.unknown.0 refl, none_below_1)
  chain_says false true w o t l d = (d.not_adjacent.0 refl, next 1 none_below_1 (at_1 (refuted d.unknown)))
  chain_says false false true o t l d = (d.wrong_way.0 refl, next 2 (next 1 none_below_1 (at_1 (refuted d.unknown))) (at_2 (refuted d.not_adjacent)))
  chain_says false false false (Some on) t l d = (d.dependent, next 3 (next 2 (next 1 none_below_1 (at_1 (refuted d.unknown))) (at_2 (refuted d.not_adjacent))) (at_3 (refuted d.wrong_way)))
  chain_says false false false None true l d =
      (d.taken.0 refl, next 4 (next 3 (next 2 (next 1 none_below_1 (at_1 (refuted d.unknown))) (at_2 (refuted d.not_adjacent))) (at_3 (refuted d.wrong_way))) (at_4 d.dependent))
  chain_says false false false None false true d =
      (d.limit.0 refl, next 5 (next 4 (next 3 (next 2 (next 1 none_below_1 (at_1 (refuted d.unknown))) (at_2 (refuted d.not_adjacent))) (at_3 (refuted d.wrong_way))) (at_4 d.dependent)) (at_5 (refuted d.taken)))
  chain_says false false false None false false d = λ fault.
      next 7 (next 6 (next 5 (next 4 (next 3 (next 2 (next 1 none_below_1 (at_1 (refuted d.unknown))) (at_2 (refuted d.not_adjacent))) (at_3 (refuted d.wrong_way))) (at_4 d.dependent)) (at_5 (refuted d.taken))) (at_6 (refuted d.limit))) (at_7 d.memory) fault (small fault)
