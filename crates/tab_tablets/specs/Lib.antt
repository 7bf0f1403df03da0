pub mod ByRow
pub mod Splits
pub mod Places
pub mod Parts
pub mod Due
pub mod EndPrefixes
pub mod Listing
pub mod Restored
pub use Rattle.tab_version.specs.Sources
pub use Rattle.tab_tablet.specs.Tablets
pub use Rattle.tab_tablet.specs.Splitting
pub use Rattle.tab_tablet.specs.Opened
pub use Rattle.tab_tablet.specs.Spared
pub use Rattle.tab_tablet.specs.Merges
pub use Rattle.tab_tablet.specs.Plans
pub use Rattle.tab_tablet.specs.Sizes
pub use Rattle.tab_tablet.specs.Due as TabletDue
