-- `listing::verdict::judge` meets its contract, test by test. Assumes nothing.
use mathlib.Core.Path.{refl, ap}
use Prim.Native.Nat.{ℕ}
use native.Mathlib.Omega.{arith}
use Rattle.codes.specs.SaysLaws.{passed, failed, passes, stops}
use Rattle.codes.specs.declared.answers.Cause.TheVariants.{Status}
use Rattle.codes.specs.declared.answers.Refusal.TheVariants.{IoError}
use Rattle.listing.specs.Listing.{listing_of, judged}
use Rattle.std.specs.Prelude.{Err}
use Rattle.codes.specs.StatusesLaws.{header-word}
use Rattle.listing.specs.ListingLaws.{length-fits}
use Rattle.listing.proofs.verdict.judge.Goals as goal

pub returns-then-not-fits : goal.returns-then-not-fits
unfolding listing_of
returns-then-not-fits c = stops _ _ _ (failed c.length_ok-fits.ensures c.if-not-fits.true-raw) refl

pub returns-then-not-ok : goal.returns-then-not-ok
unfolding listing_of
returns-then-not-ok c =
    passes _ _ _ (passed c.length_ok-fits.ensures c.if-not-fits.false-raw)
    (stops _ _ _ (failed (header-word _ _ c.get_u32-word.ensures c.status_is_ok-ok.ensures) c.if-not-ok.true-raw) (ap (λ (w : ℕ). judged (Err (IoError (Status w)))) c.get_u32-word.ensures))

pub overflow_sub-result : goal.overflow_sub-result
overflow_sub-result c =
    (length-fits c.args.n (passed c.length_ok-fits.ensures c.if-not-fits.false-raw)).0

pub overflow_cast-result : goal.overflow_cast-result
overflow_cast-result c =
    omega (arith, length-fits c.args.n (passed c.length_ok-fits.ensures c.if-not-fits.false-raw))

pub returns : goal.returns
unfolding listing_of
returns c =
    passes _ _ _ (passed c.length_ok-fits.ensures c.if-not-fits.false-raw)
    (passes _ _ _ (passed (header-word _ _ c.get_u32-word.ensures c.status_is_ok-ok.ensures) c.if-not-ok.false-raw) refl)
