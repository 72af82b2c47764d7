-- What private functions say.
-- Assumes nothing.
use Rattle.std.specs.Prelude.{ℕ, List, [], ◌∷◌, Option, Some, None, Result, Ok, Err}
use Rattle.std.proofs.lemmas.List.Edits.{sets}
use Rattle.layout.specs.Bytes.{le}
use Rattle.layout.specs.Rows.{rows_bytes}
use Rattle.layout.specs.Lent.{Shown, shown}
use Rattle.codes.specs.Events.{event_code}
use Rattle.codes.specs.Answers.{refusal_word}
use Rattle.codes.specs.declared.answers.Refusal.{Refusal}
use Rattle.records.specs.declared.event.Notice.{Notice}
use Rattle.records.specs.declared.event.Notice.TheVariants as notice

-- what is told of a notice
abbrev pub noticed : Result (Option Notice) Refusal → List ℕ → Shown
noticed (Ok (Some (notice.Event k d))) r = shown 0 (sets r 0 (rows_bytes (le 4) (event_code k ∷ d ∷ [])))
noticed (Ok (Some (notice.Control id mask))) r = shown 0 (sets r 0 (rows_bytes (le 4) (0x1200 ∷ id ∷ mask ∷ [])))
noticed (Ok None) r = shown 513 r
noticed (Err e) r = shown (refusal_word e) r
