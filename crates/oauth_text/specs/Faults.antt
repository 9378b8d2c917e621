-- What a fault of a host is for the URL around it.
use Rattle.oauth_text.specs.declared.host.HostFault.{HostFault}
use Rattle.oauth_text.specs.declared.host.HostFault.TheVariants as host
use Rattle.oauth_text.specs.declared.url.UrlFault.{UrlFault}
use Rattle.oauth_text.specs.declared.url.UrlFault.TheVariants as url

abbrev pub url_fault_of_host : HostFault → UrlFault
url_fault_of_host host.BadHost = url.BadUrl
url_fault_of_host host.NoMemory = url.NoMemory
