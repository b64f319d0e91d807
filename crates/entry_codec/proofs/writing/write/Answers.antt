use Rattle.entry_codec.proofs.Bounds.{grows_least, grows_most}
use Rattle.entry_codec.proofs.writing.write.Goals as goal

pub returns-else-is_err-clause-least : goal.returns-else-is_err-clause-least
returns-else-is_err-clause-least c = grows_least c.put_entry-written.result c.args.out.now.items c.put_entry-written.new.out.items c.args.index c.args.entry.now c.put_entry-written.ensures.ok c.put_entry-written.ensures.fits

pub returns-else-is_err-clause-most : goal.returns-else-is_err-clause-most
returns-else-is_err-clause-most c = grows_most c.put_entry-written.result c.args.out.now.items c.put_entry-written.new.out.items c.args.index c.args.entry.now c.put_entry-written.ensures.ok c.put_entry-written.ensures.fits
