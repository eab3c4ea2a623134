use Rattle.std.proofs.Common.{◌≡◌, ◌++◌, OnOk, subst}
use Rattle.std.specs.String.{string_bytes}
use Rattle.load_maker.proofs.Lines.{worker_head_text}
use Rattle.load_maker.proofs.made.put_worker_head.Goals as goal

pub returns : goal.returns
returns c = subst (λ t. OnOk c.put_numbered.result (string_bytes c.put_numbered.new.text ≡ string_bytes c.args.text.now ++ t)) (worker_head_text c.args.number) c.put_numbered.ensures
