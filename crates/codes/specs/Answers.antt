-- "What a call says": document 01's names and numbers. 0 is Ok, and is no refusal. Later requests add refusals and values; no promise depends on the list being closed.
-- Assumes nothing.
use Rattle.std.specs.Prelude.{List, [], ◌∷◌, ℕ, ◌+◌, ◌*◌, Result, Ok, Err}
use Rattle.codes.specs.Says.{Says, says}
use Rattle.codes.specs.declared.answers.Cause.{Cause}
use Rattle.codes.specs.declared.answers.Cause.TheVariants as cause
use Rattle.codes.specs.declared.answers.Refusal.{Refusal}
use Rattle.codes.specs.declared.answers.Refusal.TheVariants as refusal

-- "2 and 3 .. carry the status that caused them, or none"
abbrev pub cause_values : Cause → List ℕ
cause_values cause.NoStatus = []
cause_values (cause.Status word) = word ∷ []

-- the number and the values of each refusal
abbrev pub says_refusal : Refusal → Says
says_refusal refusal.InvalidParam = says 1 []
says_refusal (refusal.IoError c) = says 2 (cause_values c)
says_refusal (refusal.Unsupported c) = says 3 (cause_values c)
says_refusal refusal.NoInfo = says 4 []
says_refusal refusal.TooMany = says 5 []
says_refusal refusal.WrongToken = says 6 []
says_refusal refusal.QueueFailed = says 7 []
says_refusal refusal.Busy = says 8 []
says_refusal refusal.OutOfTurns = says 9 []
says_refusal refusal.BadLength = says 10 []
says_refusal refusal.Short = says 11 []
says_refusal refusal.BadState = says 12 []
says_refusal refusal.Full = says 15 []
says_refusal refusal.NotYet = says 16 []
says_refusal refusal.BadCapture = says 17 []

-- what a call that may be refused says: 0 and its values, or its refusal
abbrev pub says_result : {A : Type 0} → (A → List ℕ) → Result A Refusal → Says
says_result values (Ok a) = says 0 (values a)
says_result values (Err r) = says_refusal r

-- ---- at the C boundary: of 2 and 3 the device's word stands in the high half, and 0x8000 where none caused it (0x8000 is ok and causes none, and 0 may);
-- of every other refusal the high half is 0

abbrev pub cause_word : Cause → ℕ
cause_word cause.NoStatus = 0x8000
cause_word (cause.Status word) = word

abbrev pub high_half : Refusal → ℕ
high_half refusal.InvalidParam = 0
high_half (refusal.IoError c) = cause_word c
high_half (refusal.Unsupported c) = cause_word c
high_half refusal.NoInfo = 0
high_half refusal.TooMany = 0
high_half refusal.WrongToken = 0
high_half refusal.QueueFailed = 0
high_half refusal.Busy = 0
high_half refusal.OutOfTurns = 0
high_half refusal.BadLength = 0
high_half refusal.Short = 0
high_half refusal.BadState = 0
high_half refusal.Full = 0
high_half refusal.NotYet = 0
high_half refusal.BadCapture = 0

abbrev pub refusal_word : Refusal → ℕ
refusal_word r = (says_refusal r).number + 4294967296 * high_half r
