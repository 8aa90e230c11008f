-- What the engine shows is what the call answers.
use Rattle.std.proofs.Common.{◌≡◌, ℕ, List, Some, None, Ok, Option, Result, refl, subst}
use Rattle.engine.specs.Shown.{ShownBy}
use Rattle.logic.specs.Kinds.{reach}
use Rattle.logic.specs.Kinds.Kind.{path}
use Rattle.logic.specs.Sets.{Set}
use Rattle.logic.specs.Walks.{Quantifier, Operator}
use Rattle.logic.specs.Walks.Quantifier.{some_walk, every_walk}
use Rattle.model.specs.Faults.{Refusal}
use Rattle.model.specs.Meaning.{Meaning}
use Rattle.scale.specs.Grades.{Grades}
use Rattle.scale.specs.declared.reading.Reading.{Reading}
use Rattle.std.specs.Option.{ok_or}
use Rattle.sheet.specs.Faults.{answer}
use Rattle.sheet.specs.declared.fault.SheetFault.TheVariants.{NoWalk}
use Rattle.sheet.specs.Calls.{first_of, second_of}
use Rattle.sheet.specs.Kinds.{kind_of}
use Rattle.sheet.specs.States.{State}
use Rattle.sheet.specs.Walking.{Wanted, WantedBy, Seeks, Sought, WalksAfter}
use Rattle.sheet.specs.declared.row.Row.{Row}

module _ (m : Meaning) (k : ℕ) (ys xs : List ℕ) where
  seeks : (q : Quantifier) (op : Operator) (r : Reading) (L R : Set) (o : Option (ℕ × ℕ)) → ShownBy m q op r L R k ys xs o → Seeks m (Wanted (path q op) (Some r) L R) k ys xs o
  seeks some_walk op r L R None h = h
  seeks some_walk op r L R (Some c) h = record { written = h.written; walk = h.walk; does = h.does }
  seeks every_walk op r L R None h = h
  seeks every_walk op r L R (Some c) h = record { written = h.written; walk = h.walk; does = h.does }

  -- by the row's record and its operands' bytes
  pub seeks_by : (q : Quantifier) (op : Operator) (r : Reading) (L R : Set) (o : Option (ℕ × ℕ)) (g : Grades) (s : State) (x : Row) (l : ℕ) →
      path q op ≡ kind_of x.kind x.a → Some r ≡ g.reading l → L ≡ reach (first_of s x) l → R ≡ reach (second_of s x) l →
      ShownBy m q op r L R k ys xs o → Seeks m (WantedBy g s x l) k ys xs o
  seeks_by q op r L R o g s x l kind reading left right h =
      subst (λ (W : (ℕ → ℕ) → Type 0). Seeks m W k ys xs o) (λ i π. Wanted (kind i) (reading i) (left i) (right i) π) (seeks q op r L R o h)

  -- with the fault where there is no walk
  pub sought : (W : (ℕ → ℕ) → Type 0) (o : Option (ℕ × ℕ)) → Seeks m W k ys xs o → Sought m W k ys xs (answer (ok_or o NoWalk))
  sought W (Some r) h = h
  sought W None h = record { number = refl; none = h.0; same = h.1 }

-- a request that passed the checks
pub after_checks : (a : Result Unit Refusal) (m : Meaning) (W : (ℕ → ℕ) → Type 0) (k : ℕ) (ys xs : List ℕ) (answer : Result (ℕ × ℕ) Refusal) → Ok tt ≡ a → Sought m W k ys xs answer → WalksAfter a m W k ys xs answer
after_checks a m W k ys xs answer h s = subst (λ (a : Result Unit Refusal). WalksAfter a m W k ys xs answer) h s
