use Rattle.std.proofs.Common.{string_bytes}
use Rattle.types.specs.View.{ty_view, value_view}
use Rattle.texts.proofs.ShownLemmas.{shown_alone}
use Rattle.texts.proofs.showing.show.Goals as goal

pub returns : goal.returns
returns c = shown_alone (ty_view c.args.ty.now) (value_view c.args.value.now) (string_bytes c.new-text.result) (string_bytes c.put_shown.new.out) c.new-text.ensures.bytes c.in_ok-put_shown.ensures
