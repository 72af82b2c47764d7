-- `model_store::answer::answer` meets its contract: an arm for each code. Assumes nothing.
use Rattle.std.proofs.Common.{refl}
use Rattle.layout.specs.Bytes.{le, Bytes}
use Rattle.model.specs.Control.{bad}
use Rattle.model_store.specs.Store.{device_of}
use Rattle.model_store.specs.AnswerLaws.{unchanged, jacks-place, pcms-place, maps-place, command-place}
use Rattle.model_store.proofs.answer.answer.Goals as goal

pub returns-in-RJackInfo : goal.returns-in-RJackInfo
returns-in-RJackInfo c =
    let a = c.args in
    let b : Bytes a.device.now = λ k. (c.slice_known-1.given k).fits in
    rw c.in-RJackInfo.is (unchanged a.device.now b _ _ (jacks-place a.device.now b a.n c.requires.2 c.requires.3 a.request.now) c.rows.ensures)

pub returns-in-RJackRemap : goal.returns-in-RJackRemap
returns-in-RJackRemap c =
    let s = c.args.device.now in
    rw c.in-RJackRemap.is (unchanged s (λ k. (c.slice_known-1.given k).fits) (bad (device_of s)) (le 4 0x8001) refl c.tell.ensures)

pub returns-in-RPcmInfo : goal.returns-in-RPcmInfo
returns-in-RPcmInfo c =
    let a = c.args in
    let b : Bytes a.device.now = λ k. (c.slice_known-1.given k).fits in
    rw c.in-RPcmInfo.is (unchanged a.device.now b _ _ (pcms-place a.device.now b a.n c.requires.2 c.requires.3 a.request.now) c.rows-in-RPcmInfo.ensures)

pub returns-in-RPcmPrepare : goal.returns-in-RPcmPrepare
returns-in-RPcmPrepare c =
    let a = c.args in
    rw c.in-RPcmPrepare.is (unchanged a.device.now (λ k. (c.slice_known-1.given k).fits) _ _ (command-place a.device.now a.request.now) c.command.ensures)

pub returns-in-RPcmRelease : goal.returns-in-RPcmRelease
returns-in-RPcmRelease c =
    let a = c.args in
    rw c.in-RPcmRelease.is (unchanged a.device.now (λ k. (c.slice_known-1.given k).fits) _ _ (command-place a.device.now a.request.now) c.command-in-RPcmRelease.ensures)

pub returns-in-RPcmStart : goal.returns-in-RPcmStart
returns-in-RPcmStart c =
    let a = c.args in
    rw c.in-RPcmStart.is (unchanged a.device.now (λ k. (c.slice_known-1.given k).fits) _ _ (command-place a.device.now a.request.now) c.command-in-RPcmStart.ensures)

pub returns-in-RPcmStop : goal.returns-in-RPcmStop
returns-in-RPcmStop c =
    let a = c.args in
    rw c.in-RPcmStop.is (unchanged a.device.now (λ k. (c.slice_known-1.given k).fits) _ _ (command-place a.device.now a.request.now) c.command-in-RPcmStop.ensures)

pub returns-in-RChmapInfo : goal.returns-in-RChmapInfo
returns-in-RChmapInfo c =
    let a = c.args in
    let b : Bytes a.device.now = λ k. (c.slice_known-1.given k).fits in
    rw c.in-RChmapInfo.is (unchanged a.device.now b _ _ (maps-place a.device.now b a.n c.requires.2 c.requires.3 a.request.now) c.rows-in-RChmapInfo.ensures)
