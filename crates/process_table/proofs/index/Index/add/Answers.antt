use Rattle.std.proofs.Common.{◌≡◌, ◌∙◌, true, Result, Ok, Err, OnOk, ap, sym}
use Rattle.std.specs.Result.{is_ok}
use Rattle.ordered_table.specs.Lists.{joined}
use Rattle.process_table.specs.declared.index.Index.{Index}
use Rattle.process_table.proofs.AddLaws.{index-push}
use Rattle.process_table.proofs.index.Index.add.Goals.{then-is_next, else-is_next}
use Rattle.process_table.proofs.index.Index.add.Goals as goal

at_ok : {A B : Type 0} (r : Result A B) (P : Type 0) → is_ok r ≡ true → OnOk r P → P
at_ok (Ok a) P ok p = p
at_ok (Err b) P ok p = cc

pub returns : goal.returns
returns c rows known next rises = elim c.if-is_next.branch [
  | then-is_next w ↦
      let forgot = c.forget.ensures in
      let joins = at_ok w.join.result _ (sym w.is_ok-self.ensures.value ∙ sym w.self2-is ∙ rises) w.join.ensures.ok in
      index-push c.args.self.now _ rows c.args.row.now (sym next ∙ w.if-is_next.true.1)
      (ap (λ (index : Index). index.children) w.self-is ∙ joins ∙ ap (λ (index : Index). joined c.args.row.now.parent c.args.row.now.pid index.children) forgot)
      (ap (λ (index : Index). index.orphaned) w.self-is ∙ ap (λ (index : Index). index.orphaned) forgot)
      (known (ap (λ (index : Index). index.rises) (sym forgot) ∙ w.if-is_next.true.0))
  | else-is_next w ↦ let never = sym w.self2-is ∙ rises in cc
]
