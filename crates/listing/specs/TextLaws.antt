-- The laws of a line's text.
-- Assumes nothing.
use Rattle.std.specs.Prelude.{◌≡◌, refl, Bool, true, false, List, [], ◌∷◌, ◌++◌, ℕ, ◌+◌, ◌≤◌, ◌<◌, leb, length, take, drop, Result, Ok, Err}
use Rattle.std.proofs.Common.{sym, ap, subst, ◌∙◌, append_assoc, add_assoc, zero-add, arith, length-append, take_at, length-take-le, le-leb}
use Rattle.std.proofs.lemmas.List.Edits.{sets, sets-eq}
use Rattle.std.proofs.lemmas.Bool.{lt-leb}
use Rattle.codes.specs.Says.{says, pick}
use Rattle.codes.specs.SaysLaws.{picks, skips}
use Rattle.listing.specs.Listing.{says_line, line_says, Gives}
use Rattle.listing.specs.declared.lines.Text.{Text}
use Rattle.codes.specs.declared.answers.Refusal.{Refusal}
use Rattle.codes.specs.declared.answers.Refusal.TheVariants.{BadLength}
use Rattle.listing.specs.Text.{text_of, Adds}

-- THE LAW: bytes that come one after the other are the line
pub adds_then : {t u r : Text} {v w : List ℕ} → Adds t v u → Adds u w r → Adds t (v ++ w) r
adds_then {t} {u} {r} {v} {w} p q = record {
  longer = q.longer ∙ ap (λ (n : ℕ). n + length w) p.longer ∙ add_assoc t.len (length v) (length w) ∙ ap (λ (n : ℕ). t.len + n) (sym (length-append v w));
  more = q.more ∙ ap (λ (l : List ℕ). l ++ w) p.more ∙ append_assoc (text_of t) v w;
}

-- a line that began with no bytes
pub adds-all : {t r : Text} {w : List ℕ} → t.len ≡ 0 → Adds t w r → text_of r ≡ w
adds-all {t} {r} {w} e p = p.more ∙ ap (λ (n : ℕ). take n t.bytes ++ w) e

-- bytes copied in after the first n
pub copied : (l word : List ℕ) (n : ℕ) → n + length word ≤ length l → take (n + length word) (sets l n word) ≡ take n l ++ word
copied l word n h =
    let k : length (take n l ++ word) ≡ n + length word = length-append (take n l) word ∙ ap (λ (m : ℕ). m + length word) (length-take-le n l (omega arith)) in
    ap (take (n + length word)) (sets-eq word l n h) ∙ take_at (take n l ++ word) (drop (n + length word) l) (n + length word) k

-- ---- the line in the lent slice

pub given : (l out : List ℕ) (n : ℕ) → length l ≡ n → n ≤ length out → Gives l (Ok n) out (sets out 0 l)
given l out n e h =
    let b : leb (length l) (length out) ≡ true = le-leb (length l) (length out) (omega arith) in
    record {
      said = ap Ok (sym e) ∙ sym (picks _ _ _ b);
      holds = sets-eq l out 0 (omega arith) ∙ ap (λ (k : ℕ). l ++ drop k out) (zero-add (length l)) ∙ sym (picks _ _ _ b);
    }

pub withheld : (l out : List ℕ) → length out < length l → Gives l (Err BadLength) out out
withheld l out h = let b = lt-leb (length l) (length out) h in record { said = sym (skips _ _ _ b); holds = sym (skips _ _ _ b) }

-- document 01's number and values of it
says-by : (n : ℕ) (b : Bool) → says_line (pick b (Ok n) (Err BadLength)) ≡ pick b (says 0 (n ∷ [])) (says 10 [])
says-by n true = refl
says-by n false = refl

pub gives-says : {l before after : List ℕ} {r : Result ℕ Refusal} → Gives l r before after → says_line r ≡ line_says l before
gives-says {l} {before} g = ap says_line g.said ∙ says-by (length l) (leb (length l) (length before))

-- what is given of a line is given of one that equals it
pub gives : {l m before after : List ℕ} {r : Result ℕ Refusal} → l ≡ m → Gives l r before after → Gives m r before after
gives {before = before} {after} {r} e p = subst (λ (x : List ℕ). Gives x r before after) e p

pub no_line : (out : List ℕ) → Gives [] (Ok 0) out out
no_line out = given [] out 0 refl (omega arith)
