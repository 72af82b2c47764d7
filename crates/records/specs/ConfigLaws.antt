-- The configuration: each return of its reader and its writer, and both round trips, in both modes.
-- Assumes nothing.
use Rattle.std.specs.Prelude.{◌≡◌, refl, Bool, true, false, List, [], ◌++◌, ℕ, length, drop, Ok, Err}
use Rattle.std.proofs.Common.{sym, ap, ◌∙◌, append-nil, arith, eq-eqb, ne_eqb}
use Rattle.std.proofs.lemmas.List.Edits.{sets}
use Rattle.std.proofs.Math.Seq.{length-sets, drop-length}
use Rattle.layout.specs.Bytes.{le, num_at, Bytes}
use Rattle.layout.specs.Layout.{size, write, read, Fit}
use Rattle.layout.specs.BytesLaws.{num_at-out, bytes_at-all}
use Rattle.layout.specs.LayoutLaws.{length-write, read-write, write_read}
use Rattle.layout.specs.ChainLaws.{Stored, stored-front}
use Rattle.layout.specs.ChainLaws.Stored.{put, end}
use Rattle.layout.specs.StoreLaws.{sets-out}
use Rattle.codes.specs.Says.{says}
use Rattle.codes.specs.SaysLaws.{picks, skips}
use Rattle.records.specs.Config.{config_row, fits, config_says, config_of, read_of, config_values, config_write_says, config_written}
use Rattle.records.specs.declared.config.Config.{Config}
use Rattle.codes.specs.declared.answers.Refusal.TheVariants.{BadLength}

-- ---- the length is the row's, or another

pub fit : (controls : Bool) (s : List ℕ) → length s ≡ size (config_row controls) → fits controls s ≡ true
fit controls s h = eq-eqb (length s) (size (config_row controls)) h

pub misfit : (controls : Bool) (s : List ℕ) → (length s ≡ size (config_row controls) → ⊥) → fits controls s ≡ false
misfit controls s h = ne_eqb (length s) (size (config_row controls)) h

-- ---- read

pub config-bad : (controls : Bool) (s : List ℕ) → (length s ≡ size (config_row controls) → ⊥) → Err BadLength ≡ read_of (config_says controls s)
config-bad controls s h = sym (ap read_of (skips _ _ _ (misfit controls s h)))

-- the fourth number of 12 bytes is 0
four : (controls : Bool) (s : List ℕ) → length s ≡ size (config_row controls)
    → record { jacks = num_at 0 4 s; streams = num_at 4 4 s; chmaps = num_at 8 4 s; controls = num_at 12 4 s } ≡ config_of (read (config_row controls) s)
four true s h = refl
four false s h = λ i. record { jacks = num_at 0 4 s; streams = num_at 4 4 s; chmaps = num_at 8 4 s; controls = num_at-out 12 4 s (omega arith) i }

pub config-is : (controls : Bool) (s : List ℕ) (a b c d : ℕ) → length s ≡ size (config_row controls) → a ≡ num_at 0 4 s → b ≡ num_at 4 4 s → c ≡ num_at 8 4 s → d ≡ num_at 12 4 s
    → Ok (record { jacks = a; streams = b; chmaps = c; controls = d }) ≡ read_of (config_says controls s)
config-is controls s a b c d h p q r t =
    (λ i. Ok (record { jacks = p i; streams = q i; chmaps = r i; controls = t i }))
    ∙ ap Ok (four controls s h)
    ∙ sym (ap read_of (picks _ _ _ (fit controls s h)))

-- ---- written

pub config-kept : (controls : Bool) (c : Config) (l : List ℕ) → (length l ≡ size (config_row controls) → ⊥) → (says 10 [] ≡ config_write_says controls l) × (l ≡ config_written controls c l)
config-kept controls c l h = let t = misfit controls l h in (sym (skips _ _ _ t), sym (skips _ _ _ t))

-- a record over the whole slice
exact : (ws vs n l : List ℕ) → length l ≡ size ws → Stored n l 0 ws vs → n ≡ write ws vs
exact ws vs n l h s =
    let d : drop (size ws) l ≡ [] = rw (sym h) (drop-length l) in
    stored-front n l ws vs (omega arith) s ∙ ap (λ (k : List ℕ). write ws vs ++ k) d ∙ append-nil (write ws vs)

-- past the end of 12 bytes nothing was stored
four-put : (controls : Bool) (c : Config) (l₁ l₂ l₃ n l : List ℕ) → length l ≡ size (config_row controls)
    → l₁ ≡ sets l 0 (le 4 c.jacks) → l₂ ≡ sets l₁ 4 (le 4 c.streams) → l₃ ≡ sets l₂ 8 (le 4 c.chmaps) → n ≡ sets l₃ 12 (le 4 c.controls)
    → n ≡ write (config_row controls) (config_values controls c)
four-put true c l₁ l₂ l₃ n l h p q r t = exact (config_row true) (config_values true c) n l h (put p (put q (put r (put t end))))
four-put false c l₁ l₂ l₃ n l h p q r t =
    let e : length l₃ ≡ length l = ap length r ∙ length-sets l₂ 8 (le 4 c.chmaps) ∙ ap length q ∙ length-sets l₁ 4 (le 4 c.streams) ∙ ap length p ∙ length-sets l 0 (le 4 c.jacks) in
    t ∙ sets-out (le 4 c.controls) l₃ 12 (omega arith) ∙ exact (config_row false) (config_values false c) l₃ l h (put p (put q (put r end)))

pub config-put : (controls : Bool) (c : Config) (l₁ l₂ l₃ n l : List ℕ) → length l ≡ size (config_row controls)
    → l₁ ≡ sets l 0 (le 4 c.jacks) → l₂ ≡ sets l₁ 4 (le 4 c.streams) → l₃ ≡ sets l₂ 8 (le 4 c.chmaps) → n ≡ sets l₃ 12 (le 4 c.controls)
    → (says 0 [] ≡ config_write_says controls l) × (n ≡ config_written controls c l)
config-put controls c l₁ l₂ l₃ n l h p q r t =
    let f = fit controls l h in
    (sym (picks _ _ _ f), four-put controls c l₁ l₂ l₃ n l h p q r t ∙ sym (picks _ _ _ f))

-- ---- the round trips

-- what was written is read
pub write-then-config : (controls : Bool) (c : Config) (l : List ℕ) → length l ≡ size (config_row controls) → Fit (config_row controls) (config_values controls c)
    → config_says controls (config_written controls c l) ≡ says 0 (config_values controls c)
write-then-config controls c l h f =
    let ws = config_row controls in
    let vs = config_values controls c in
    ap (config_says controls) (picks _ _ _ (fit controls l h))
    ∙ picks _ _ _ (fit controls (write ws vs) (length-write ws vs))
    ∙ ap (λ (k : List ℕ). says 0 (read ws k)) (sym (append-nil (write ws vs)))
    ∙ ap (says 0) (read-write ws vs [] f)

-- the counts of a row, as a record and as counts again
values_of : (controls : Bool) (s : List ℕ) → config_values controls (config_of (read (config_row controls) s)) ≡ read (config_row controls) s
values_of true s = refl
values_of false s = refl

-- what was read, written again, leaves the bytes as they were
pub config-then-write : (controls : Bool) (s : List ℕ) → length s ≡ size (config_row controls) → Bytes s → config_written controls (config_of (read (config_row controls) s)) s ≡ s
config-then-write controls s h b =
    picks _ _ _ (fit controls s h)
    ∙ ap (write (config_row controls)) (values_of controls s)
    ∙ write_read 0 (config_row controls) s b
    ∙ bytes_at-all s (size (config_row controls)) h
