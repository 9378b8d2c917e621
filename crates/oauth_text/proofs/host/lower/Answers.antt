use Rattle.oauth_text.proofs.HostLemmas.{IsAscii-host_name}
use Rattle.oauth_text.proofs.host.lower.Goals as goal

pub ascii_str-requires : goal.ascii_str-requires
ascii_str-requires c = IsAscii-host_name c.args.name.now c.requires
