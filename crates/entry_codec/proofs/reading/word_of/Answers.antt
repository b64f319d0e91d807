use Rattle.host_types.specs.Limits.{word_limit}
use Rattle.entry_codec.proofs.Texts.{text_read}
use Rattle.entry_codec.proofs.reading.word_of.Goals as goal

pub returns-in-Ok : goal.returns-in-Ok
returns-in-Ok c = text_read word_limit c.args.bytes.now c.in_ok-text.text.now c.in_ok-text.rest.now c.in-Ok.word c.in_ok-text.ensures.exact c.in-Ok.ensures.ok
