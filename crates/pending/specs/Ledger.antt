-- "Over any sequence, what is pending is what was submitted and not finished."
-- Assumes nothing.
use Rattle.std.specs.Prelude.{ℕ, ◌≡◌, Bool, false, List, [], ◌∷◌, ltb, eqb, length, Result, Ok, Err}
use Rattle.std.proofs.Common.{arith, ap, sym, ◌∙◌}
use Rattle.std.proofs.Math.Path.{refl}
use Rattle.std.proofs.Math.Bool.{true}
use Rattle.std.proofs.Math.ListN.{length-set}
use borrow.Author.Tests.{ltb-true, eqb-true}
use Rattle.codes.specs.Says.{pick, guard}
use Rattle.codes.specs.Answers.{says_refusal}
use Rattle.codes.specs.SaysLaws.{guarded-by}
use Rattle.pending.specs.Types.{Status, Refusal, IoError, Token, Pending, Judged}
use Rattle.pending.specs.Table.{free_token, waits, marked, new_pending, token_at, pending_at, put, bound_of, lowest_in, mark_token, mark_of, finish_token, finish_of}
use Rattle.pending.specs.TableLaws.{few, put_other, put-notes, pending-in, waits-pending}
use Rattle.pending.specs.CallLaws.{mark-by, finish-by}

-- what is done to a table: a submission that passed the tests before 15, to one of so many places; a completion; finishing
pub data Op : Type 0 where
  submits : ℕ → Op
  completes : ℕ → ℕ → Op
  finishes : ℕ → Op

-- what it came to, for the ledger: a token given out, a token given back, or neither
pub data Entry : Type 0 where
  took : ℕ → Entry
  freed : ℕ → Entry
  neither : Entry

pub record After : Type 0 where
  pub table : Pending
  pub entry : Entry

-- "the lowest free of 16 equal places .., whose number is its token"; where there is none, 15 Full
unfoldable pub taken_after : Pending → ℕ → After
taken_after p places = guard (ltb (lowest_in p places) (bound_of places)) (record { table = p; entry = neither })
    (record { table = put p (lowest_in p places) waits; entry = took (lowest_in p places) })

-- Ok and 2 give the token back
abbrev pub ends_entry : Result (Unit {0}) Refusal → ℕ → Entry
ends_entry (Ok _) token = freed token
ends_entry (Err r) token = pick (eqb (says_refusal r).number 2) (freed token) neither

abbrev pub finished_after : ℕ → Judged → After
finished_after token j = record { table = j.table; entry = ends_entry j.said token }

abbrev pub does : Pending → Op → After
does p (submits places) = taken_after p places
does p (completes token status) = record { table = (mark_of p token status).table; entry = neither }
does p (finishes token) = finished_after token (finish_of p token)

-- the ledger of one token
abbrev pub noted : Entry → ℕ → Bool → Bool
noted (took j) k b = pick (eqb j k) true b
noted (freed j) k b = pick (eqb j k) false b
noted neither k b = b

abbrev pub table_after : Pending → List Op → Pending
table_after p [] = p
table_after p (o ∷ os) = table_after (does p o).table os

abbrev pub ledger : Pending → List Op → ℕ → Bool → Bool
ledger p [] k b = b
ledger p (o ∷ os) k b = ledger (does p o).table os k (noted (does p o).entry k b)

-- ---- one operation

abbrev pub Notes : Pending → ℕ → After → Type 0
Notes p k a = pending_at a.table k ≡ noted a.entry k (pending_at p k)

module _ (p : Pending) (size : length p.tokens ≡ 32) (k : ℕ) where
  submits-notes : (places : ℕ) → Notes p k (taken_after p places)
  unfolding taken_after
  submits-notes places =
      guarded-by (Notes p k) _ _ _
      (λ e.
      let h = ltb-true (lowest_in p places) (bound_of places) e in
      let f = few places in
      put-notes p (lowest_in p places) k waits true (omega arith) refl (eqb (lowest_in p places) k) refl)
      (λ _. refl)

  -- a mark leaves its token pending
  marks-by : (token status : ℕ) → pending_at p token ≡ true → (b : Bool) → eqb token k ≡ b → pending_at (put p token (marked status)) k ≡ pending_at p k
  marks-by token status e true q =
      let z : token ≡ k = eqb-true token k q in
      put-notes p token k (marked status) true (pending-in p token e) refl true q ∙ sym e ∙ ap (pending_at p) z
  marks-by token status e false q = put-notes p token k (marked status) true (pending-in p token e) refl false q

  pub completes-notes : (token status : ℕ) → pending_at (mark_of p token status).table k ≡ pending_at p k
  completes-notes token status = mark-by (λ (m : Judged). pending_at m.table k ≡ pending_at p k) p token status (λ e. marks-by token status (waits-pending p token e) (eqb token k) refl) refl

  ends-notes : (token status : ℕ) (b : Bool) → ends_entry (pick b (Ok tt) (Err (IoError (Status status)))) token ≡ freed token
  ends-notes token status true = refl
  ends-notes token status false = refl

  pub finishes-notes : (token : ℕ) → Notes p k (finished_after token (finish_of p token))
  finishes-notes token =
      finish-by (λ m. Notes p k (finished_after token m)) p token
      (λ e. put-notes p token k free_token false (pending-in p token e) refl (eqb token k) refl
      ∙ ap (λ (x : Entry). noted x k (pending_at p k)) (sym (ends-notes token (token_at p token).status (eqb (token_at p token).status 0x8000))))
      refl refl

  notes : (o : Op) → Notes p k (does p o)
  notes (submits places) = submits-notes places
  notes (completes token status) = completes-notes token status
  notes (finishes token) = finishes-notes token

-- the table keeps its length
module _ (p : Pending) where
  abbrev Sized : Pending → Type 0
  Sized q = length q.tokens ≡ length p.tokens

  pub put-sized : (k : ℕ) (t : Token) → Sized (put p k t)
  put-sized k t = length-set p.tokens k t

  pub take-sized : (places : ℕ) → Sized (taken_after p places).table
  unfolding taken_after
  take-sized places = guarded-by (λ (t : After). Sized t.table) _ _ _ (λ _. length-set p.tokens (lowest_in p places) waits) (λ _. refl)

  pub mark-sized : (token status : ℕ) → Sized (mark_of p token status).table
  mark-sized token status = mark-by (λ (m : Judged). Sized m.table) p token status (λ _. length-set p.tokens token (marked status)) refl

  pub finish-sized : (token : ℕ) → Sized (finish_of p token).table
  finish-sized token = finish-by (λ (m : Judged). Sized m.table) p token (λ _. length-set p.tokens token free_token) refl refl

  pub sized : (o : Op) → Sized (does p o).table
  sized (submits places) = take-sized places
  sized (completes token status) = mark-sized token status
  sized (finishes token) = finish-sized token

-- THE THEOREM: of every token, over any sequence
pub pending-exactly : (p : Pending) (ops : List Op) (k : ℕ) → length p.tokens ≡ 32 → pending_at (table_after p ops) k ≡ ledger p ops k (pending_at p k)
pending-exactly p [] k size = refl
pending-exactly p (o ∷ os) k size =
    pending-exactly (does p o).table os k (sized p o ∙ size) ∙ ap (λ (b : Bool). ledger (does p o).table os k b) (notes p size k o)

-- "finish takes marked tokens in any order": it leaves every other token as it was, status and all, and what it answers of that one
pub finish-any-order : (p : Pending) (j k : ℕ) → (k ≡ j → ⊥) → token_at (finish_of p j).table k ≡ token_at p k
finish-any-order p j k n = finish-by (λ (m : Judged). token_at m.table k ≡ token_at p k) p j (λ _. put_other p j k free_token n) refl refl

pub finish-own : (p : Pending) (j k : ℕ) → (k ≡ j → ⊥) → (finish_of (finish_of p j).table k).said ≡ (finish_of p k).said
finish-own p j k n = ap (λ (t : Token). (finish_token t).said) (finish-any-order p j k n)

-- ---- they are not empty: of three submissions the second is finished, and a fourth takes its place

pub instance-of-it : (b : Bool) → ledger new_pending (submits 16 ∷ submits 16 ∷ submits 16 ∷ completes 1 0x8000 ∷ finishes 1 ∷ completes 2 0x8000 ∷ []) 1 b ≡ false
unfolding taken_after lowest_in guard finish_token mark_token
instance-of-it b = refl
