-- `state_store::flat::flat_of` meets its contract, case by case. Assumes nothing.
use Rattle.state_store.proofs.flat.flat_of.Goals as goal

pub returns-in-Idle : goal.returns-in-Idle
returns-in-Idle c = rw c.in-Idle.is (simp (c.at_stage.ensures, c.numbers.ensures))

pub returns-in-JacksAsked : goal.returns-in-JacksAsked
returns-in-JacksAsked c = rw c.in-JacksAsked.is (simp (c.at_stage-in-JacksAsked.ensures, c.call_flat.ensures))

pub returns-in-StreamsAsked : goal.returns-in-StreamsAsked
returns-in-StreamsAsked c = rw c.in-StreamsAsked.is (simp (c.at_stage-in-StreamsAsked.ensures, c.call_flat-in-StreamsAsked.ensures))

pub returns-in-MapsAsked : goal.returns-in-MapsAsked
returns-in-MapsAsked c = rw c.in-MapsAsked.is (simp (c.at_stage-in-MapsAsked.ensures, c.call_flat-in-MapsAsked.ensures))

pub returns-in-Sent : goal.returns-in-Sent
returns-in-Sent c = rw c.in-Sent.is (simp (c.at_stage-in-Sent.ensures, c.call_flat-in-Sent.ensures))
