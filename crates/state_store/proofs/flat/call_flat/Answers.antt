-- `state_store::flat::call_flat` meets its contract, case by case. Assumes nothing.
use Rattle.state_store.proofs.flat.call_flat.Goals as goal

pub returns-in-SetParams : goal.returns-in-SetParams
returns-in-SetParams c = rw c.in-SetParams.is c.set_flat.ensures

pub returns-in-Command : goal.returns-in-Command
returns-in-Command c = rw c.in-Command.is (cc)

pub returns-in-Remap : goal.returns-in-Remap
returns-in-Remap c = rw c.in-Remap.is (cc)

pub returns-in-Streams : goal.returns-in-Streams
returns-in-Streams c = rw c.in-Streams.is (cc)

pub returns-in-Supported : goal.returns-in-Supported
returns-in-Supported c = rw c.in-Supported.is (cc)

pub returns-in-Xfer : goal.returns-in-Xfer
returns-in-Xfer c = rw c.in-Xfer.is (cc)

pub returns-in-Capture : goal.returns-in-Capture
returns-in-Capture c = rw c.in-Capture.is (cc)
