-- `codes::rates::PcmRate::from_hz` meets its contract: the first place of the number in the table. Assumes nothing.
use Rattle.std.proofs.Common.{rules, tests, ◌≡◌, ◌∙◌, sym, ap, ℕ, eqb, Some, None}
use Rattle.std.specs.List.{position}
use Rattle.std.proofs.lemmas.Iterator.{YieldsList-from_slice}
use Rattle.std.proofs.lemmas.Iterator.Search.{position_from_yields_List}
use Rattle.codes.specs.SaysLaws.{skips}
use Rattle.codes.specs.Codes.{number_says}
use Rattle.codes.specs.Rates.{hz_table}
use Rattle.codes.specs.RatesLaws.{place-found, place-missed}
use Rattle.codes.proofs.rates.PcmRate.from_hz.Goals as goal

pub returns-in-Some : goal.returns-in-Some
returns-in-Some c =
    let hz = c.args.hz in
    let e : Some c.in-Some.at ≡ position (λ y. eqb y hz) hz_table =
    position_from_yields_List (λ y. eqb y hz) _ _ _ c.in-Some.ensures.ran (YieldsList-from_slice hz_table c.iter.ensures.rest) (λ x b q k. search (rules, tests)) in
    c.try_from.ensures ∙ sym (ap (λ (n : ℕ). number_says 14 n n) (place-found hz hz_table c.in-Some.at (sym e)))

pub returns-in-None : goal.returns-in-None
returns-in-None c =
    let hz = c.args.hz in
    let e : None ≡ position (λ y. eqb y hz) hz_table =
    position_from_yields_List (λ y. eqb y hz) _ _ _ c.in-None.ensures.ran (YieldsList-from_slice hz_table c.iter.ensures.rest) (λ x b q k. search (rules, tests)) in
    sym (skips _ _ _ (place-missed hz hz_table (sym e)))
