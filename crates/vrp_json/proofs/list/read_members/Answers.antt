use Rattle.vrp_json.proofs.Documents.{loaded_once, refused_second, refused_value}
use Rattle.vrp_json.proofs.list.read_members.Goals as goal

pub returns-in-Err : goal.returns-in-Err
returns-in-Err c = λ ms at.
    let (j, behind, here, there) = c.if-not-find_roas.ensures ms at in
    refused_value c.args.second ms j behind c.in-Err.fault c.read_roas.new.reader here (c.in-Err.ensures j behind there)

pub returns-then-find_roas : goal.returns-then-find_roas
returns-then-find_roas c = λ ms at.
    let (j, behind, here, there) = c.if-not-find_roas.ensures ms at in
    let read = c.in-Ok.ensures j behind there in
    refused_second c.args.second ms j behind c.in-Ok.loaded c.read_roas.new.reader c.find_roas-2.new.reader here read (c.if-find_roas.ensures behind read.3)

pub returns : goal.returns
returns c = λ ms at.
    let (j, behind, here, there) = c.if-not-find_roas.ensures ms at in
    let read = c.in-Ok.ensures j behind there in
    loaded_once c.args.second ms j behind c.in-Ok.loaded c.read_roas.new.reader here read (c.if-find_roas.ensures behind read.3)
