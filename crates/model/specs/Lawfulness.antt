-- Proofs, and no definitions to read: every meaning cut down to what exists is lawful, so tables, pools and pairs are.
-- (They stand here since a ghost member cites specs/ alone.)
use Rattle.std.specs.Prelude.{◌≡◌, ℕ, ◌+◌, ◌*◌, ◌^◌, ◌<◌, ◌≤◌, Bool, true, cond, ◌&&◌, ◌||◌, List, nat_le, nat_lt}
use Rattle.std.specs.List.{list_any}
use Rattle.std.proofs.Common.{arith}
use Rattle.std.proofs.lemmas.Bool.{and_parts, ltb-true, leb-true, cond_both}
use Rattle.model.specs.Below.{some}
use Rattle.model.specs.Limits.{within, kept, limited}
use Rattle.model.specs.Meaning.{Meaning, Lawful}
use Rattle.model.specs.Pairs.{labels, first_steps, second_steps, part_holds, paired}
use Rattle.model.specs.Pools.{leads, lawful, shows, pooled}
use Rattle.model.specs.Tables.{is_step, is_holding, listed}
use Rattle.model.specs.declared.pool.Thread.TheVariants.{A, B}
use Rattle.model.specs.declared.table.Holding.{Holding}
use Rattle.model.specs.declared.table.Step.{Step}

module _ (a b : ℕ) (c : Bool) where
  first_below : (n m : ℕ) → (nat_lt a n && (nat_lt b m && c)) ≡ true → a < n
  first_below n m e = ltb-true a n (and_parts (nat_lt a n) (nat_lt b m && c) e).0

  second_below : (n m : ℕ) → (nat_lt a n && (nat_lt b m && c)) ≡ true → b < m
  second_below n m e = ltb-true b m (and_parts (nat_lt b m) c (and_parts (nat_lt a n) (nat_lt b m && c) e).1).0

kept_few : (n p count most : ℕ) → (within n p ≡ true → count ≤ most) → kept n p count ≤ most
kept_few n p count most h = cond_both (within n p) count 0 (λ k. k ≤ most) h (λ e. omega arith)

pub limited_lawful : (n p : ℕ) (steps holdings : ℕ → ℕ → Bool) → Lawful (limited n p steps holdings)
limited_lawful n p steps holdings = record {
  few_states = kept_few n p n 4096 (λ e. leb-true n 4096 (and_parts (nat_le n 4096) (nat_le p 64) e).0);
  few_props = kept_few n p p 64 (λ e. leb-true p 64 (and_parts (nat_le n 4096) (nat_le p 64) e).1);
  steps_from = λ s t e. first_below s t (steps s t) (kept n p n) (kept n p n) e;
  steps_to = λ s t e. second_below s t (steps s t) (kept n p n) (kept n p n) e;
  holds_props = λ q s e. first_below q s (holdings q s) (kept n p p) (kept n p n) e;
  holds_states = λ q s e. second_below q s (holdings q s) (kept n p p) (kept n p n) e;
}

pub listed_lawful : (n p : ℕ) (steps : List Step) (holdings : List Holding) → Lawful (listed n p steps holdings)
listed_lawful n p steps holdings = limited_lawful n p (λ s t. list_any (is_step s t) steps) (λ q s. list_any (is_holding q s) holdings)

pub pooled_lawful : (k g : ℕ) → Lawful (pooled k g)
pooled_lawful k g =
    limited_lawful (cond (lawful k g) (4 ^ k) 0) (cond (lawful k g) 2 0) (λ s t. some k (λ i. leads k g A i s t || leads k g B i s t)) (shows k g)

pub paired_lawful : (a b : Meaning) → Lawful (paired a b)
paired_lawful a b =
    limited_lawful (a.states * b.states) (labels (a.states * b.states) (a.props + b.props))
    (λ s t. first_steps a b s t || second_steps a b s t) (part_holds a b)
