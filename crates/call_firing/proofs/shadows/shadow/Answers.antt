use native.Mathlib.Omega.{arith}
use Rattle.file_words.specs.Word.{Bytes}
use Rattle.file_header.specs.declared.Due.TheVariants as due
use Rattle.file.proofs.Opening.{opened_ok, turned_back_lem}
use Rattle.call_firing.proofs.Followed.{slice_kind, by_plan, by_slice, both_read, ensured}
use Rattle.call_firing.proofs.shadows.shadow.Goals as goal

pub returns-in_default : goal.returns-in_default
unfolding Bytes
returns-in_default c =
    let bytes : Bytes c.args.plan.now = λ i. omega (arith, c.type_inv.plan i) in
    let told = ensured _ _ c.args.list.now c.args.marking.now c.args.out.now bytes (by_plan _ _ _ _ _ (turned_back_lem due.Plan _ c.read-first.ensures c.unwrap_err.ensures).0) in
    record { answer = told.0; marking = told.1.0; output = told.1.1.0; followed = told.1.1.1 }

pub returns-in_default-second : goal.returns-in_default-second
unfolding Bytes
returns-in_default-second c =
    let bytes : Bytes c.args.plan.now = λ i. omega (arith, c.type_inv.plan i) in
    let told = ensured _ _ c.args.list.now c.args.marking.now c.args.out.now bytes
    (by_slice _ _ _ _ _ (opened_ok due.Plan _ c.in-Ok.ensures) (turned_back_lem due.Slice _ c.read-second.ensures c.unwrap_err-in_default-second.ensures).0) in
    record { answer = told.0; marking = told.1.0; output = told.1.1.0; followed = told.1.1.1 }

pub shadow_of-requires : goal.shadow_of-requires
shadow_of-requires c =
    let s = opened_ok due.Slice _ c.in-Ok-second.ensures in
    record { sound = (opened_ok due.Plan _ c.in-Ok.ensures).good; sound_2 = (s.good, slice_kind s) }

pub returns : goal.returns
unfolding Bytes
returns c =
    let bytes : Bytes c.args.plan.now = λ i. omega (arith, c.type_inv.plan i) in
    let told = ensured _ _ c.args.list.now c.args.marking.now c.args.out.now bytes
    (both_read _ _ _ _ (opened_ok due.Plan _ c.in-Ok.ensures) (opened_ok due.Slice _ c.in-Ok-second.ensures) c.shadow_of.ensures) in
    record { answer = told.0; marking = told.1.0; output = told.1.1.0; followed = told.1.1.1 }
