-- The ring: a new one, the next slot, free descriptors, and what a turn says.
-- Assumes nothing.
use Rattle.std.specs.Prelude.{Bool, true, false, [], ℕ, ◌+◌, ◌-◌, ◌*◌, ◌/◌, ◌%◌, replicate}
use Rattle.codes.specs.Says.{Says, says}
use Rattle.codes.specs.Answers.{says_refusal, refusal_word}
use Rattle.turns.specs.Types.{Slot, Track, Ring, Said, Going, Done, Ended, Refused}

abbrev pub blank_slot : Slot
blank_slot = record { offset = 0; len = 0 }

-- "submit it at head (3 descriptors)": of 32, where none is indirect
abbrev pub direct : ℕ
direct = 3

-- "a submission takes one descriptor" where they are indirect (2026-14)
abbrev pub indirect : ℕ
indirect = 1

-- a ring that no transfer ran on, with some descriptors to a submission
abbrev pub new_track : ℕ → Track
new_track descriptors = record { descriptors = descriptors; head = 0; tail = 0; inflight = 0; stream = 0; total = 0; period = 0; next = 0; budget = 0; turns = 0; running = false; capture = false; lent = 0; kept = 0; room = 0; written = 0; good = 0 }

abbrev pub new_ring : ℕ → Ring
new_ring descriptors = record { track = new_track descriptors; slots = replicate 32 blank_slot }

-- "Head and tail return to 0 after 31."
abbrev pub after : ℕ → ℕ
after slot = (slot + 1) % 32

-- the descriptors that are free, of 32
abbrev pub free : Track → ℕ
free t = 32 - t.inflight * t.descriptors

-- how many may be in flight: 10, or 32
abbrev pub most_of : ℕ → ℕ
most_of descriptors = 32 / descriptors

-- what a turn says: a turn that goes on has no number in the paper, and 512 at the C boundary
abbrev pub going : ℕ
going = 512

abbrev pub says_said : Said → Says
says_said Going = says going []
says_said Done = says 0 []
says_said (Ended r) = says_refusal r
says_said (Refused r) = says_refusal r

-- the same as one word at the C boundary: a refusal's status stands in its high half
abbrev pub said_word : Said → ℕ
said_word Going = going
said_word Done = 0
said_word (Ended r) = refusal_word r
said_word (Refused r) = refusal_word r

abbrev pub goes_on : Said → Bool
goes_on Going = true
goes_on Done = false
goes_on (Ended r) = false
goes_on (Refused r) = false

abbrev pub is_refused : Said → Bool
is_refused Going = false
is_refused Done = false
is_refused (Ended r) = false
is_refused (Refused r) = true
