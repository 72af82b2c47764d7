-- A new state has the invariant; calls, feeds, queue failures and starts of a transfer keep it.
-- Assumes nothing.
use Rattle.std.specs.Prelude.{◌≡◌, ℕ, zero, suc, ◌<◌, ◌≤◌, Bool, true, false, List, [], ◌∷◌, length, replicate, slice_index, slice_index_or, slice_set, refl}
use Rattle.std.proofs.Common.{sym, ap, ◌∙◌, subst, arith, length-set, get_or-set_other}
use Rattle.std.proofs.lemmas.Bool.{false≢true}
use Rattle.std.proofs.lemmas.List.{length-replicate}
use Rattle.tables.specs.Tables.{jacks_place, pcms_place, maps_place, tables_bytes}
use Rattle.tables.specs.FillLaws.{copied-length}
use Rattle.sound_core.specs.State.{unset}
use Rattle.exchange.specs.State.{new_sound, params_of}
use Rattle.sound_core.specs.Consistent.{consistent_of, params_ok}
use Rattle.exchange.specs.Tables.{moved, sound_after}
use Rattle.exchange.specs.Exchange.{step_of, call_of}
use Rattle.exchange.specs.Kept.{Kept}
use Rattle.exchange.specs.FineLaws.{Allowed, Fine, called-fine, fed-fine}
use Rattle.exchange.specs.Feed.{Feed, page_of, plan_of, fed_of}
use Rattle.exchange.specs.StayLaws.{Stays, called-stays, fed-stays}
use Rattle.exchange.specs.Types.{Track, Counts, Params, Call, Core, Sound, Effect, Nothing, FillJacks, FillStreams, FillMaps, Store, Move, Plan}

unset-known : (n i : ℕ) → slice_index_or (replicate n unset) i unset ≡ unset
unset-known zero i = refl
unset-known (suc n) zero = refl
unset-known (suc n) (suc i) = unset-known n i

-- what holds of what is stored and of what was there holds of what is there then
set-by : (Q : Params → Type 0) (l : List Params) (k i : ℕ) (to : Params) → Q to → Q (slice_index_or l i unset) → Q (slice_index_or (slice_set l k to) i unset)
set-by Q [] k i to a b = b
set-by Q (x ∷ l) zero zero to a b = a
set-by Q (x ∷ l) zero (suc i) to a b = b
set-by Q (x ∷ l) (suc k) zero to a b = b
set-by Q (x ∷ l) (suc k) (suc i) to a b = set-by Q l k i to a b

pub zero-life : (n i : ℕ) → ◌≡◌ {A = ℕ} (slice_index (replicate n 0) i) 0
zero-life zero i = refl
zero-life (suc n) zero = refl
zero-life (suc n) (suc i) = zero-life n i

moved_length : (guard : Bool) (l : List ℕ) (stream life : ℕ) → length (moved guard l stream life) ≡ length l
moved_length true l stream life = length-set l stream life
moved_length false l stream life = refl

-- ---- a new state

pub new-kept : (guard : Bool) (jacks streams maps : ℕ) → Kept (new_sound guard jacks streams maps)
unfolding consistent_of
new-kept guard jacks streams maps =
    let p : (i : ℕ) → params_of (new_sound guard jacks streams maps) i ≡ unset = unset-known 127 in
    record {
      consistent = refl;
      tables = length-replicate {A = ℕ} tables_bytes 0;
      params = refl;
      lives = refl;
      pending = refl;
      fine = λ i. ap params_ok (p i);
      unset = λ _ i. ap (λ (q : Params). q.known) (p i);
      beyond = λ i _. ap (λ (q : Params). q.known) (p i);
      early = λ _ i. zero-life 127 i;
    }

-- ---- one step

module _ (s : Sound) (k : Kept s) (d : Core) (e : consistent_of d ≡ true) (n : d.counts ≡ s.core.counts) (r : s.core.ready ≡ true → d.ready ≡ true) where
  before : (a b : Bool) → (a ≡ true → b ≡ true) → b ≡ false → a ≡ false
  before true b f h = sym (f refl) ∙ h
  before false b f h = refl

  out : (i : ℕ) → d.counts.streams ≤ i → s.core.counts.streams ≤ i
  out i h = subst (λ (m : Counts). m.streams ≤ i) n h

  -- the tables may be others of their length
  tables-kept : (t : List ℕ) → length t ≡ tables_bytes → Kept (record { core = d; tables = t; params = s.params; lives = s.lives; pending = s.pending })
  tables-kept t a =
      record {
        consistent = e;
        tables = a;
        params = k.params;
        lives = k.lives;
        pending = k.pending;
        fine = k.fine;
        unset = λ h. k.unset (before s.core.ready d.ready r h);
        beyond = λ i h. k.beyond i (out i h);
        early = λ h. k.early (before s.core.ready d.ready r h);
      }

  -- one stream's parameters are stored
  store_kept : (stream : ℕ) (to : Params) → params_ok to ≡ true → s.core.ready ≡ true → stream < s.core.counts.streams
      → Kept (record { core = d; tables = s.tables; params = slice_set s.params stream to; lives = moved d.guard s.lives stream 0; pending = s.pending })
  store_kept stream to ok done h =
      record {
        consistent = e;
        tables = k.tables;
        params = length-set s.params stream to ∙ k.params;
        lives = moved_length d.guard s.lives stream 0 ∙ k.lives;
        pending = k.pending;
        fine = λ i. set-by (λ (p : Params). params_ok p ≡ true) s.params stream i to ok (k.fine i);
        unset = λ f. absurd (false≢true (sym f ∙ r done));
        beyond = λ i b. ap (λ (p : Params). p.known) (get_or-set_other s.params stream i to unset (λ x. omega (arith, out i b))) ∙ k.beyond i (out i b);
        early = λ f. absurd (false≢true (sym f ∙ r done));
      }

  -- one stream is moved
  move-kept : (stream life : ℕ) → s.core.ready ≡ true
      → Kept (record { core = d; tables = s.tables; params = s.params; lives = moved d.guard s.lives stream life; pending = s.pending })
  move-kept stream life done =
      record {
        consistent = e;
        tables = k.tables;
        params = k.params;
        lives = moved_length d.guard s.lives stream life ∙ k.lives;
        pending = k.pending;
        fine = k.fine;
        unset = λ f. absurd (false≢true (sym f ∙ r done));
        beyond = λ i h. k.beyond i (out i h);
        early = λ f. absurd (false≢true (sym f ∙ r done));
      }

  effect-kept : (x : Effect) (page : List ℕ) → Allowed s.core x → Kept (sound_after x d s page)
  effect-kept Nothing page a = tables-kept s.tables k.tables
  effect-kept (FillJacks n) page a = tables-kept _ (copied-length jacks_place 24 n page s.tables ∙ k.tables)
  effect-kept (FillStreams n) page a = tables-kept _ (copied-length pcms_place 32 n page s.tables ∙ k.tables)
  effect-kept (FillMaps n) page a = tables-kept _ (copied-length maps_place 24 n page s.tables ∙ k.tables)
  effect-kept (Store stream to) page a = store_kept stream to a.0 a.1 a.2
  effect-kept (Move stream life) page a = move-kept stream life a

pub step_kept : (s : Sound) (p : Plan) (page : List ℕ) → Kept s → Stays s.core p → Fine s.core p → Kept (sound_after p.effect p.core s page)
step_kept s p page k a f = effect-kept s k p.core f.consistent a.counts a.ready p.effect page f.effect

-- ---- THE INVARIANT IS KEPT by every call, feed, queue failure and start of a transfer

pub call_kept : (s : Sound) (t : Track) (call : Call) (n : ℕ) → Kept s → Kept (step_of (call_of s t call n) s []).sound
call_kept s t call n k = step_kept s (call_of s t call n) [] k (called-stays s t call n) (called-fine s t call n k.consistent)

pub feed-kept : (s : Sound) (f : Feed) → Kept s → Kept (fed_of s f).sound
feed-kept s f k = step_kept s (plan_of s f) (page_of f) k (fed-stays s f) (fed-fine s f k.consistent)
