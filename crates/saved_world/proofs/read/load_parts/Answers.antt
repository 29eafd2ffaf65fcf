use Rattle.std.proofs.Common.{rules}
use Rattle.saved_world.proofs.Backs.{no_head_so, no_pages, no_pages_so, loaded, loaded_so, no_checkpoint, no_checkpoint_so}
use Rattle.saved_world.proofs.read.load_parts.Goals as goal

pub returns-in_err-loading-clause-accepted : goal.returns-in_err-loading-clause-accepted
returns-in_err-loading-clause-accepted c =
    no_head_so c.args.bytes.now c.in-Some.head.now c.in-Some.pages.now c.in-Some.ensures.found c.from_residual.result c.in_err-loading.field-0.0 (search rules) c.in_err-loading.ensures.accepted

pub returns-in_err-read_pages-clause-read : goal.returns-in_err-read_pages-clause-read
returns-in_err-read_pages-clause-read c =
    no_pages c.args.bytes.now c.in-Some.head.now c.in-Some.pages.now c.in-Some.ensures.found c.in_ok-loading.loading c.read_pages.new.loading c.in_ok-loading.ensures.empty c.in_ok-loading.ensures.read
    c.from_residual-in_err-read_pages.result c.in_err-read_pages.field-0.0 (search rules) c.in_err-read_pages.ensures.read

pub returns-in_err-read_pages-clause-accepted : goal.returns-in_err-read_pages-clause-accepted
returns-in_err-read_pages-clause-accepted c =
    no_pages_so c.args.bytes.now c.in-Some.head.now c.in-Some.pages.now c.in-Some.ensures.found c.in_ok-loading.loading c.read_pages.new.loading c.in_ok-loading.ensures.empty c.in_ok-loading.ensures.read
    c.from_residual-in_err-read_pages.result c.in_err-read_pages.field-0.0 (search rules) c.in_err-read_pages.ensures.accepted

pub returns-in_err-end-clause-read : goal.returns-in_err-end-clause-read
returns-in_err-end-clause-read c =
    no_checkpoint c.args.bytes.now c.in-Some.head.now c.in-Some.pages.now c.in-Some.ensures.found c.in_ok-loading.loading c.read_pages.new.loading c.in_ok-loading.ensures.empty c.in_ok-loading.ensures.read
    c.in_ok-read_pages.ensures.read c.in_ok-loading.ensures.accepted c.in_ok-read_pages.ensures.accepted
    c.from_residual-in_err-end.result c.in_err-end.field-0.0 (search rules) c.in_err-end.ensures.refused

pub returns-in_err-end-clause-accepted : goal.returns-in_err-end-clause-accepted
returns-in_err-end-clause-accepted c =
    no_checkpoint_so c.args.bytes.now c.in-Some.head.now c.in-Some.pages.now c.in-Some.ensures.found c.in_ok-loading.loading c.read_pages.new.loading c.in_ok-loading.ensures.empty c.in_ok-loading.ensures.read
    c.in_ok-read_pages.ensures.read c.in_ok-loading.ensures.accepted c.in_ok-read_pages.ensures.accepted
    c.from_residual-in_err-end.result c.in_err-end.field-0.0 (search rules) c.lemma_sound_is_whole.ensures.sound c.in_err-end.ensures.refused

pub returns-clause-read : goal.returns-clause-read
returns-clause-read c =
    loaded c.args.bytes.now c.in-Some.head.now c.in-Some.pages.now c.in-Some.ensures.found c.in_ok-loading.loading c.read_pages.new.loading c.in_ok-loading.ensures.empty c.in_ok-loading.ensures.read
    c.in_ok-read_pages.ensures.read c.in_ok-loading.ensures.accepted c.in_ok-read_pages.ensures.accepted
    c.in_ok-end.field-0 c.in_ok-end.ensures.ok c.in_ok-end.ensures.sound

pub returns-clause-accepted : goal.returns-clause-accepted
returns-clause-accepted c =
    loaded_so c.args.bytes.now c.in-Some.head.now c.in-Some.pages.now c.in-Some.ensures.found c.in_ok-loading.loading c.read_pages.new.loading c.in_ok-loading.ensures.empty c.in_ok-loading.ensures.read
    c.in_ok-read_pages.ensures.read c.in_ok-loading.ensures.accepted c.in_ok-read_pages.ensures.accepted
    c.in_ok-end.field-0 c.in_ok-end.ensures.ok
