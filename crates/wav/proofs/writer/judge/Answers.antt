-- `wav::writer::judge` meets its contract: the tests in their order. Assumes nothing.
use mathlib.Core.Path.{◌≡◌, refl, sym, ap, ◌∙◌}
use Prim.Native.Nat.{ℕ, ◌+◌, ◌%◌, ◌<◌}
use native.Mathlib.Omega.{arith}
use borrow.Author.Tests.{eq-eqb, ne_eqb, lt-ltb, le-ltb, le-leb, lt-leb}
use Rattle.codes.specs.SaysLaws.{passes, stops}
use Rattle.codes.specs.Formats.{format_number, says_format}
use Rattle.wav.specs.Chunks.{padded}
use Rattle.wav.specs.Wave.{block_of, wrote_of}
use Rattle.wav.specs.WriteLaws.{is_held, not-held, some_block}
use Rattle.wav.proofs.writer.judge.Goals as goal

pub returns-in_default : goal.returns-in_default
unfolding wrote_of
returns-in_default c =
    let a = c.args in
    stops _ _ _ (not-held a.format _ (sym (ap says_format c.in_default.is) ∙ c.held.ensures)) refl

pub returns-then-rate-ge14 : goal.returns-then-rate-ge14
unfolding wrote_of
returns-then-rate-ge14 c =
    let a = c.args in
    let t = is_held a.format (format_number c.in-Ok.f) (sym (ap says_format c.in-Ok.is) ∙ c.held.ensures) in
    passes _ _ _ t.0 (stops _ _ _ (le-ltb a.rate 14 c.if-rate-ge14.true) refl)

pub returns-then-channels-eq0 : goal.returns-then-channels-eq0
unfolding wrote_of
returns-then-channels-eq0 c =
    let a = c.args in
    let t = is_held a.format (format_number c.in-Ok.f) (sym (ap says_format c.in-Ok.is) ∙ c.held.ensures) in
    passes _ _ _ t.0 (passes _ _ _ (lt-ltb a.rate 14 (omega (arith, c.if-rate-ge14.false))) (stops _ _ _ (le-ltb 0 a.channels (omega (arith, c.if-channels-eq0.true))) refl))

pub nonzero_rem-len : goal.nonzero_rem-len
nonzero_rem-len c =
    let a = c.args in
    let t = is_held a.format (format_number c.in-Ok.f) (sym (ap says_format c.in-Ok.is) ∙ c.held.ensures) in
    let w : c.block-whole.result ≡ block_of a.channels a.format = c.block-whole.ensures ∙ ap (block_of a.channels) t.1 in
    let p : 0 < c.block-whole.result = rw w (some_block a.channels a.format t.0 (omega (arith, c.if-channels-eq0.false))) in
    omega (arith, p)

pub returns-then-len-whole-ne0 : goal.returns-then-len-whole-ne0
unfolding wrote_of
returns-then-len-whole-ne0 c =
    let a = c.args in
    let t = is_held a.format (format_number c.in-Ok.f) (sym (ap says_format c.in-Ok.is) ∙ c.held.ensures) in
    let w : c.block-whole.result ≡ block_of a.channels a.format = c.block-whole.ensures ∙ ap (block_of a.channels) t.1 in
    passes _ _ _ t.0
    (passes _ _ _ (lt-ltb a.rate 14 (omega (arith, c.if-rate-ge14.false)))
    (passes _ _ _ (lt-ltb 0 a.channels (omega (arith, c.if-channels-eq0.false)))
    (stops _ _ _ (ne_eqb (a.len % block_of a.channels a.format) 0 (λ e. c.if-len-whole-ne0.true (ap (λ (n : ℕ). a.len % n) w ∙ e))) refl)))

pub returns-then-len-gt-MOST : goal.returns-then-len-gt-MOST
unfolding wrote_of
returns-then-len-gt-MOST c =
    let a = c.args in
    let t = is_held a.format (format_number c.in-Ok.f) (sym (ap says_format c.in-Ok.is) ∙ c.held.ensures) in
    let w : c.block-whole.result ≡ block_of a.channels a.format = c.block-whole.ensures ∙ ap (block_of a.channels) t.1 in
    passes _ _ _ t.0
    (passes _ _ _ (lt-ltb a.rate 14 (omega (arith, c.if-rate-ge14.false)))
    (passes _ _ _ (lt-ltb 0 a.channels (omega (arith, c.if-channels-eq0.false)))
    (passes _ _ _ (eq-eqb (a.len % block_of a.channels a.format) 0 (ap (λ (n : ℕ). a.len % n) (sym w) ∙ c.if-len-whole-ne0.false)) (stops _ _ _ (lt-leb (padded a.len) 4294967259 (omega (arith, c.if-len-gt-MOST.true))) refl))))

pub returns-then-padded-gt-MOST : goal.returns-then-padded-gt-MOST
unfolding wrote_of
returns-then-padded-gt-MOST c =
    let a = c.args in
    let t = is_held a.format (format_number c.in-Ok.f) (sym (ap says_format c.in-Ok.is) ∙ c.held.ensures) in
    let w : c.block-whole.result ≡ block_of a.channels a.format = c.block-whole.ensures ∙ ap (block_of a.channels) t.1 in
    passes _ _ _ t.0
    (passes _ _ _ (lt-ltb a.rate 14 (omega (arith, c.if-rate-ge14.false)))
    (passes _ _ _ (lt-ltb 0 a.channels (omega (arith, c.if-channels-eq0.false)))
    (passes _ _ _ (eq-eqb (a.len % block_of a.channels a.format) 0 (ap (λ (n : ℕ). a.len % n) (sym w) ∙ c.if-len-whole-ne0.false)) (stops _ _ _ (lt-leb (padded a.len) 4294967259 (omega (arith, c.if-padded-gt-MOST.true))) refl))))

pub returns-then-room-padded : goal.returns-then-room-padded
unfolding wrote_of
returns-then-room-padded c =
    let a = c.args in
    let t = is_held a.format (format_number c.in-Ok.f) (sym (ap says_format c.in-Ok.is) ∙ c.held.ensures) in
    let w : c.block-whole.result ≡ block_of a.channels a.format = c.block-whole.ensures ∙ ap (block_of a.channels) t.1 in
    passes _ _ _ t.0
    (passes _ _ _ (lt-ltb a.rate 14 (omega (arith, c.if-rate-ge14.false)))
    (passes _ _ _ (lt-ltb 0 a.channels (omega (arith, c.if-channels-eq0.false)))
    (passes _ _ _ (eq-eqb (a.len % block_of a.channels a.format) 0 (ap (λ (n : ℕ). a.len % n) (sym w) ∙ c.if-len-whole-ne0.false))
    (passes _ _ _ (le-leb (padded a.len) 4294967259 (omega (arith, c.if-padded-gt-MOST.false))) (stops _ _ _ (lt-leb (44 + padded a.len) a.room (omega (arith, c.if-room-padded.true))) refl)))))

pub returns : goal.returns
unfolding wrote_of
returns c =
    let a = c.args in
    let t = is_held a.format (format_number c.in-Ok.f) (sym (ap says_format c.in-Ok.is) ∙ c.held.ensures) in
    let w : c.block-whole.result ≡ block_of a.channels a.format = c.block-whole.ensures ∙ ap (block_of a.channels) t.1 in
    passes _ _ _ t.0
    (passes _ _ _ (lt-ltb a.rate 14 (omega (arith, c.if-rate-ge14.false)))
    (passes _ _ _ (lt-ltb 0 a.channels (omega (arith, c.if-channels-eq0.false)))
    (passes _ _ _ (eq-eqb (a.len % block_of a.channels a.format) 0 (ap (λ (n : ℕ). a.len % n) (sym w) ∙ c.if-len-whole-ne0.false))
    (passes _ _ _ (le-leb (padded a.len) 4294967259 (omega (arith, c.if-padded-gt-MOST.false)))
    (passes _ _ _ (le-leb (44 + padded a.len) a.room (omega (arith, c.if-room-padded.false))) refl)))))
