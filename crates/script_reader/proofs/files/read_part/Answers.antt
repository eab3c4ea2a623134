use Rattle.std.proofs.Common.{◌≡◌, ◌+◌, ◌-◌, ℕ, [], Ok, Err, length, sym, ap, ◌∙◌}
use Rattle.std.proofs.lemmas.Result.{err_from_is_err_and}
use Rattle.byte_ends.specs.Text.{lines}
use Rattle.unix_calls.specs.Work.{works}
use Rattle.script_words.specs.Kinds.{fault_at}
use Rattle.script_reader.specs.Files.{first_place, tells, judged, silent_kind}
use Rattle.script_reader.specs.MethodCuts.{cut_rows, cut_tells}
use Rattle.script_reader.proofs.Rows.{length-cut, told-cut, silent-cut, is-read}
use Rattle.script_reader.proofs.Wholes.{IsRead, silent, whole-bad, whole-open, whole-fine}
use Rattle.script_reader.proofs.files.read_part.Goals as goal

pub returns-then-not-place-clause-bad : goal.returns-then-not-place-clause-bad
returns-then-not-place-clause-bad c = λ fault e.
    let ls = lines c.args.text.now in
    let cut = c.in_ok-cut.cut in
    let names = c.in_ok-names.names in
    let scripts = c.in_ok-read.read.scripts in
    let place = c.in_ok-read.read.place in
    let read : IsRead ls names scripts place = is-read (cut_rows cut.words.items 0 cut.lines.items) ls names scripts place c.in_ok-cut.ensures.lines c.in_ok-names.ensures c.in_ok-read.ensures.scripts c.in_ok-read.ensures.place in
    let kind : c.silent_kind-kind.result ≡ silent_kind ls = rw c.deref.ensures.value at c.silent_kind-kind.ensures ∙ silent-cut cut.words.items 0 cut.lines.items ls c.in_ok-cut.ensures.lines in
    let told : fault_at c.args.first_line (silent_kind ls) ≡ fault = cc (e, c.bad.ensures, kind) in
    rw (← told) (silent c.args.first_line ls names scripts place read c.if-not-place.true)

pub returns-in_err-starts-clause-bad : goal.returns-in_err-starts-clause-bad
returns-in_err-starts-clause-bad c = λ fault e.
    let ls = lines c.args.text.now in
    let cut = c.in_ok-cut.cut in
    let rows = cut_rows cut.words.items 0 cut.lines.items in
    let names = c.in_ok-names.names in
    let scripts = c.in_ok-read.read.scripts in
    let place = c.in_ok-read.read.place in
    let read : IsRead ls names scripts place = is-read rows ls names scripts place c.in_ok-cut.ensures.lines c.in_ok-names.ensures c.in_ok-read.ensures.scripts c.in_ok-read.ensures.place in
    let all : c.deref-2.result.now ≡ works scripts = cc (c.deref-2.ensures.value, c.in_ok-works.ensures, c.as_slice.ensures) in
    let same : c.as_slice-2.result.now ≡ c.in_ok-read.read.marks.starts = c.as_slice-2.ensures in
    let p = err_from_is_err_and c.from_residual-in_err-starts.result c.from_residual-in_err-starts.ensures.1 in
    let said : judged (works scripts) [] c.args.first_line (cut_tells names first_place rows) ≡ Err fault = sym (c.in_ok-read.ensures.marks (works scripts)) ∙ rw same at (rw all at (c.in_err-starts.ensures.bad fault (cc (p.1, p.2, e)) c.in_ok-read.read.behind)) in
    let bad : judged (works scripts) [] c.args.first_line (tells names first_place ls) ≡ Err fault = rw (told-cut names rows ls c.in_ok-cut.ensures.lines) at said in
    whole-bad c.args.first_line ls names scripts place fault read c.if-not-place.false bad

pub returns-in-Some-clause-bad : goal.returns-in-Some-clause-bad
returns-in-Some-clause-bad c = λ fault e.
    let ls = lines c.args.text.now in
    let cut = c.in_ok-cut.cut in
    let rows = cut_rows cut.words.items 0 cut.lines.items in
    let names = c.in_ok-names.names in
    let scripts = c.in_ok-read.read.scripts in
    let place = c.in_ok-read.read.place in
    let read : IsRead ls names scripts place = is-read rows ls names scripts place c.in_ok-cut.ensures.lines c.in_ok-names.ensures c.in_ok-read.ensures.scripts c.in_ok-read.ensures.place in
    let all : c.deref-2.result.now ≡ works scripts = cc (c.deref-2.ensures.value, c.in_ok-works.ensures, c.as_slice.ensures) in
    let same : c.as_slice-2.result.now ≡ c.in_ok-read.read.marks.starts = c.as_slice-2.ensures in
    let said : judged (works scripts) [] c.args.first_line (cut_tells names first_place rows) ≡ Ok c.in_ok-starts.starts = sym (c.in_ok-read.ensures.marks (works scripts)) ∙ rw same at (rw all at (c.in_ok-starts.ensures.starts c.in_ok-read.read.behind)) in
    let fine : judged (works scripts) [] c.args.first_line (tells names first_place ls) ≡ Ok c.in_ok-starts.starts = rw (told-cut names rows ls c.in_ok-cut.ensures.lines) at said in
    let count = length-cut cut.words.items cut.lines.items ls c.in_ok-cut.ensures.lines in
    let line : c.in_ok-read.read.behind - 1 ≡ c.args.first_line + length ls - 1 = ap (λ (n : ℕ). n - 1) (c.in_ok-read.ensures.behind ∙ ap (λ (n : ℕ). c.args.first_line + n) count) in
    let told : fault_at (c.args.first_line + length ls - 1) c.in-Some.kind ≡ fault = cc (e, c.bad-in-Some.ensures, line) in
    rw (← told) (whole-open c.args.first_line ls names scripts place c.in_ok-starts.starts c.in-Some.kind read c.if-not-place.false fine (cc (c.end_kind.ensures, c.in-Some.is)))

pub returns-clause-world : goal.returns-clause-world
returns-clause-world c =
    let ls = lines c.args.text.now in
    let cut = c.in_ok-cut.cut in
    let rows = cut_rows cut.words.items 0 cut.lines.items in
    let names = c.in_ok-names.names in
    let scripts = c.in_ok-read.read.scripts in
    let place = c.in_ok-read.read.place in
    let read : IsRead ls names scripts place = is-read rows ls names scripts place c.in_ok-cut.ensures.lines c.in_ok-names.ensures c.in_ok-read.ensures.scripts c.in_ok-read.ensures.place in
    let all : c.deref-2.result.now ≡ works scripts = cc (c.deref-2.ensures.value, c.in_ok-works.ensures, c.as_slice.ensures) in
    let same : c.as_slice-2.result.now ≡ c.in_ok-read.read.marks.starts = c.as_slice-2.ensures in
    let said : judged (works scripts) [] c.args.first_line (cut_tells names first_place rows) ≡ Ok c.in_ok-starts.starts = sym (c.in_ok-read.ensures.marks (works scripts)) ∙ rw same at (rw all at (c.in_ok-starts.ensures.starts c.in_ok-read.read.behind)) in
    let fine : judged (works scripts) [] c.args.first_line (tells names first_place ls) ≡ Ok c.in_ok-starts.starts = rw (told-cut names rows ls c.in_ok-cut.ensures.lines) at said in
    rw c.len-vars.ensures (whole-fine c.args.first_line ls names scripts place c.in_ok-starts.starts read c.if-not-place.false fine (cc (c.end_kind.ensures, c.in-None.is)))
